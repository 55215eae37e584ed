-- That each export meets its promise, from what the call on the record promises, and that the promise leaves one answer. Assumes nothing.
-- which codes are a refusal's
pub mod RefusalCodes
-- from the call on the record
pub mod Settled
-- each promise fixes its answer
pub mod OnlyAnswer
