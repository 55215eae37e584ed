-- Each offer's gain is a 32-bit float: a quotient that the correlator rounded. Over the rules, for any samples. Assumes nothing.
use Rattle.std.specs.Prelude.{Some, None, Option}
use mathlib.Core.Bool.{false, not}
use mathlib.Core.List.{List, [], ◌∷◌, ◌++◌, map, flat_map}
use Prim.Native.Nat.{ℕ, ◌^◌}
use lib.Dec.{T, ltb, eqb}
use lib.IntN.{ℤ}
use lib.ListN.{length}
use lib.Ieee.{Float, binary32, of_bits, fits, sub, lt}
use lib.Ieee.Fits.{div-fits}
use Rattle.machine.specs.Runs.{run, answers, Each}
use Rattle.machine.proofs.Parts.{each_joined}
use Rattle.shaping.specs.Rate.{Rate}
use Rattle.protocol.specs.declared.Kind.{Kind}
use Rattle.protocol.specs.declared.Kind.TheVariants.{Lsf, Bert, Stream, Packet}
use Rattle.protocol.specs.declared.SyncBurst.{SyncBurst}
use Rattle.protocol.specs.declared.SyncBurst.TheVariants.{Frame, Preamble, EndOfTransmission}
use Rattle.decode.specs.Correlator.{zero_unsigned, highest, lowest, gain_of, correlation, matches}
use Rattle.search.specs.declared.Waiting.{Waiting}
use Rattle.search.specs.declared.Control.{Control}
use Rattle.search.specs.declared.Turn.{Turn}
use Rattle.search.specs.declared.Reply.{Reply}
use Rattle.search.specs.declared.Reply.TheVariants.{Accepted, Rejected}
use Rattle.search.specs.TakenBurst.{TakenBurst, held_in, held_by, taken}
use Rattle.search.specs.Search.{carried, same_kind, matched, missed, tried, passed, searched}
use Rattle.search.specs.Turn.{Outcome, quiet, offer, counted, freed, owing, due_turn, waited_turn, comes_to, sampled, replied}
use Rattle.search.proofs.AgeInPass.{by_test}
use Rattle.demodulator.specs.Spans.{eight}
use Rattle.demodulator.specs.Singles.{blank}
use Rattle.demodulator_run.specs.Filter.{ago}
use Rattle.demodulator_run.specs.Rules.{sample, reply, History, After, settled, given, answered, single}
use Rattle.listening.specs.Listener.{Rule, Listed, listed_of, listed_in, reply_to, calls_at, offers}
use Rattle.listening.specs.Rules.{rules_at}

abbrev pub Single : Listed → Type 0
Single o = T (fits binary32 o.due.gain)

abbrev HeldSingle : Option TakenBurst → Type 0
HeldSingle None = Unit {0}
HeldSingle (Some t) = T (fits binary32 t.gain)

abbrev pub Keeps : Control → Type 0
Keeps c = HeldSingle (held_in c.candidate)

correlated_single : (burst : SyncBurst) (v : ℕ → Float) → T (fits binary32 (correlation burst v).gain)
unfolding correlation gain_of
correlated_single burst v =
    div-fits binary32 (sub binary32 (highest (λ i. zero_unsigned (v i)) 7) (lowest (λ i. zero_unsigned (v i)) 7)) (of_bits binary32 0x4000_0000)

-- ---- a search
module _ (p : ℕ) (v : ℕ → Float) where
  carried_single : (burst : SyncBurst) (c : Control) → Keeps c → Keeps (carried p burst v c)
  unfolding carried
  carried_single burst c K = by_test Keeps (matches burst v) _ _ (λ e. K) (λ e. K)

  matched_single : (o : Option TakenBurst) → HeldSingle o → (new : TakenBurst) → T (fits binary32 new.gain) → (c : Control)
      → Keeps (matched o new c)
  unfolding matched
  matched_single None K new f c = f
  matched_single (Some t) K new f c = by_test Keeps (lt t.diff new.diff) _ _ (λ e. K) (λ e. f)

  missed_single : (kind : Kind) (o : Option TakenBurst) (c : Control) → Keeps c → Keeps (missed p kind o c)
  unfolding missed
  missed_single kind None c K = K
  missed_single kind (Some t) c K = by_test Keeps (same_kind t.kind kind) _ _ (λ e. K) (λ e. K)

  tried_single : (kind : Kind) (c : Control) → Keeps c → Keeps (tried p v kind c)
  unfolding tried
  tried_single kind c K =
      by_test Keeps (matches (Frame kind) v) _ _
      (λ e. matched_single (held_by c) K (taken kind (correlation (Frame kind) v) c.sample) (correlated_single (Frame kind) v) c)
      (λ e. missed_single kind (held_by c) c K)

  searched_single : (c : Control) → Keeps c → Keeps (searched p v c)
  unfolding searched passed
  searched_single c K =
      tried_single Packet _ (tried_single Stream _ (tried_single Bert _ (tried_single Lsf _ (carried_single EndOfTransmission _ (carried_single Preamble c K)))))

  -- ---- a sample
  abbrev OutSingle : Outcome → Type 0
  OutSingle (quiet c) = Keeps c
  OutSingle (offer shown c) = T (fits binary32 shown.gain) × Keeps c

  due_single : (o : Option TakenBurst) → HeldSingle o → (w : Waiting) (c : Control) → Keeps c → OutSingle (comes_to p v (due_turn o w c))
  unfolding due_turn
  due_single None f w c K = searched_single c K
  due_single (Some t) f w c K = (f, K)

  waited_single : (wait : Option Waiting) (c : Control) → Keeps c → OutSingle (comes_to p v (waited_turn wait c))
  unfolding waited_turn
  waited_single None c K = searched_single c K
  waited_single (Some w) c K =
      by_test (λ (o : Turn). OutSingle (comes_to p v o)) (ltb 1 w.left) _ _ (λ _. K) (λ _. due_single (held_by c) K w (freed c) tt)

  sampled_single : (c : Control) → Keeps c → OutSingle (sampled p v c)
  unfolding sampled
  sampled_single c K = waited_single c.wait (counted c) K

  replied_single : (r : Reply) (c : Control) → Keeps c → Keeps (replied p v r c)
  unfolding replied
  replied_single Accepted c K = K
  replied_single Rejected c K = searched_single (owing false c) K

-- ---- the rules
module _ (R : Rate) (rule : Rule) where
  record Went (a : After) : Type 0 where
    keeps : Keeps a.history.control
    lists : Each Single (listed_in rule a.said)

  settled_single : (v : ℕ → Float) (xs : List ℤ) (room : List Float) (o : Outcome) → OutSingle R.p v o
      → Went (settled R.taps R.p xs room o)
  unfolding settled listed_of Each
  settled_single v xs room (quiet c) K = record { keeps = K; lists = tt }
  settled_single v xs room (offer shown c) K = record { keeps = K.1; lists = (K.0, tt) }

  given_single : (h : History) (x : ℤ) → Keeps h.control → Went (single R.taps R.p h (sample x blank))
  unfolding single given listed_of Each
  given_single h x K =
      let xs : List ℤ = h.samples ++ (x ∷ []) in
      let v : ℕ → Float = eight R.p (ago R.taps R.p xs) in
      by_test Went h.control.owed _ _ (λ _. record { keeps = K; lists = tt })
      (λ _. by_test Went (ltb (length blank) 192) _ _ (λ _. record { keeps = K; lists = tt })
      (λ _. by_test Went (eqb h.control.sample (2 ^ 63)) _ _ (λ _. record { keeps = K; lists = tt })
      (λ _. settled_single v xs blank (sampled R.p v h.control) (sampled_single R.p v h.control K))))

  answered_single : (h : History) (r : Reply) → Keeps h.control → Keeps (single R.taps R.p h (reply r)).history.control
  unfolding single answered
  answered_single h r K =
      by_test (λ (a : After). Keeps a.history.control) (not h.control.owed) _ _ (λ _. K) (λ _. replied_single R.p (eight R.p (ago R.taps R.p h.samples)) r h.control K)

  replies_single : (os : List Listed) (h : History) → Keeps h.control → Keeps (run (rules_at R) h (map reply_to os)).control
  unfolding run
  replies_single [] h K = K
  replies_single (o ∷ os) h K = replies_single os _ (answered_single h o.reply K)

  pub offers_single : (xs : List ℤ) (h : History) → Keeps h.control → Each Single (offers (rules_at R) rule h xs)
  unfolding answers flat_map Each run
  offers_single [] h K = tt
  offers_single (x ∷ xs) h K =
      let W = given_single h x K in
      let said : List Listed = listed_in rule ((rules_at R).says h (sample x blank)) in
      each_joined Single said (offers (rules_at R) rule (run (rules_at R) h (calls_at (rules_at R) rule h x)) xs) W.lists
      (offers_single xs _ (replies_single said (single R.taps R.p h (sample x blank)).history W.keeps))
