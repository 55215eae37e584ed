-- `write_lines` meets its contract. Assumes nothing.
use mathlib.Core.List.{[]}
use Rattle.library_desk.specs.Listing.{three_of}
use Rattle.library_desk.proofs.listing.write_lines.Goals as goal

-- src/listing.rt:79:1
pub returns : goal.returns
returns c =
    let e1 = c.line_of-a.ensures in
    let e2 = c.line_of-b.ensures in
    let e3 = c.line_of-c.ensures in
    let e4 = c.line_of-d.ensures in
    let e5 = c.line_of-e.ensures in
    let e6 = c.line_of-f.ensures in
    let e7 = c.line_of-g.ensures in
    let e8 = c.line_of-h.ensures in
    λ i. three_of (e1 i) (three_of (e2 i) (three_of (e3 i) (three_of (e4 i) (three_of (e5 i) (three_of (e6 i) (three_of (e7 i) (three_of (e8 i) [])))))))
