-- What the filter sees of a line: its values from the oldest to the newest, wherever the cursor is. The ring law, of a stream of values: what is seen depends on what was
-- seen before and the values that entered, and on nothing else. Assumes nothing.
use mathlib.Core.Path.{◌≡◌, refl, sym, ap, ◌∙◌}
use mathlib.Core.Logic.{⊎_elim}
use mathlib.Core.Bool.{cond}
use mathlib.Core.List.{List}
use Prim.Native.Nat.{ℕ, zero, suc, ◌+◌, ◌-◌, ◌%◌, ◌≤◌, ◌<◌}
use native.Mathlib.Nat.{add-zero, add-suc, mod-lt, mod-eq_of_lt, mod-add-mod, add-mod-mod, add-mod_right}
use native.Mathlib.Omega.{arith}
use borrow.Author.Tests.{lt-ltb, le-ltb}
use lib.Dec.{ltb, lit≤, lit<}
use lib.ListN.{length, get_or, replicate, length-set, length-replicate, get_or-replicate}
use lib.Seq.{ext_get_or, get_or-set_other}
use lib.Ieee.{Float, nan, binary32, of_bits}
use Rattle.numbers.proofs.Ring.{Recent, push}
use Rattle.numbers.proofs.Tests.{lt_or_le}
use Rattle.shaping.specs.Rate.{tap_count}
use Rattle.shaping.specs.Sum.{value_at}
use Rattle.pulse.specs.Pulse.{Line, after, line_at}
use Rattle.pulse.proofs.Stream.{after_cut, cursor_stays}

-- value i, the oldest being 0 and the newest 8p
abbrev pub view : ℕ → Line → ℕ → Float
view p line i = value_at p line.window line.cursor i

-- the line holds the last 8p + 1 of f 1, .. f n
abbrev pub Holds : ℕ → (ℕ → Float) → ℕ → Line → Type 0
Holds p f n line = Recent (tap_count p) nan f n line.window line.cursor

-- a stream that is what f goes on with
pub holds_after : (p : ℕ) (e f : ℕ → Float) (n : ℕ) (line : Line) → Holds p f n line → (k : ℕ) → ((j : ℕ) → j < k → f (suc (n + j)) ≡ e j) → Holds p f (n + k) (after p e k line)
unfolding after
holds_after p e f n line r zero h = rw (add-zero n) r
holds_after p e f n line r (suc k) h =
    rw (add-suc n k)
    (push (tap_count p) nan f f (n + k) (after p e k line).window (after p e k line).cursor (e k) (holds_after p e f n line r k (λ j l. h j (omega arith))) (λ _ _. refl) (h k (omega arith)))

-- ---- a stream that goes into any line
module _ (p : ℕ) (e : ℕ → Float) (line : Line) (long : tap_count p ≤ length line.window) (inside : line.cursor < tap_count p) where
  -- what the line holds already, and then the stream
  history : ℕ → Float
  history k = cond (ltb (tap_count p) k) (e (k - suc (tap_count p))) (view p line (k - 1))

  held : (i : ℕ) → i < tap_count p → view p line i ≡ history ((tap_count p + i + 1) - tap_count p)
  unfolding history
  held i l =
      let at : (tap_count p + i + 1) - tap_count p ≡ suc i = omega arith in
      let same : suc i - 1 ≡ i = omega arith in
      rw (at, le-ltb (tap_count p) (suc i) l, same)

  entering : (j : ℕ) → history (suc (tap_count p + j)) ≡ e j
  unfolding history
  entering j =
      let same : suc (tap_count p + j) - suc (tap_count p) ≡ j = omega arith in
      rw (lt-ltb (tap_count p) (suc (tap_count p + j)) (omega arith), same)

  -- after n values
  begun : Holds p history (tap_count p) line
  begun = record { long = long; inside = inside; holds = held }

  seen : (n i : ℕ) → i < tap_count p → view p (after p e n line) i ≡ history ((tap_count p + n + i + 1) - tap_count p)
  seen n i l = (holds_after p e history (tap_count p) line begun n (λ j _. entering j)).holds i l

  -- what the line held is still seen, further on
  pub view_kept : (n i : ℕ) → n + i < tap_count p → view p (after p e n line) i ≡ view p line (n + i)
  unfolding history
  view_kept n i l =
      let at : (tap_count p + n + i + 1) - tap_count p ≡ suc (n + i) = omega arith in
      let same : suc (n + i) - 1 ≡ n + i = omega arith in
      seen n i (omega arith) ∙ rw (at, le-ltb (tap_count p) (suc (n + i)) l, same)

  -- once it has gone through, nothing else is seen
  pub view_entered : (n i : ℕ) → i < tap_count p → tap_count p ≤ n + i → view p (after p e n line) i ≡ e (n + i - tap_count p)
  view_entered n i l k =
      let at : (tap_count p + n + i + 1) - tap_count p ≡ suc (tap_count p + (n + i - tap_count p)) = omega arith in
      seen n i l ∙ ap history at ∙ entering (n + i - tap_count p)

-- ---- places
-- each place of the window is seen somewhere
seen_at : (p c j : ℕ) → c < tap_count p → j < tap_count p → (i : ℕ) × (i < tap_count p) × ((c + i) % tap_count p ≡ j)
seen_at p c j inside l =
    let N = tap_count p in
    let round : c + (j + (N - c)) ≡ j + N = omega arith in
    let at : (c + (j + (N - c)) % N) % N ≡ j = add-mod-mod c (j + (N - c)) N ∙ ap (λ (k : ℕ). k % N) round ∙ add-mod_right j N ∙ mod-eq_of_lt l in
    ((j + (N - c)) % N, mod-lt (j + (N - c)) (omega arith), at)

pub place_seen : (p : ℕ) (line : Line) (x : Float) → line.cursor < tap_count p → ((i : ℕ) → i < tap_count p → view p line i ≡ x) → (j : ℕ) → j < tap_count p → get_or line.window j nan ≡ x
place_seen p line x inside sees j l =
    let i = seen_at p line.cursor j inside l in
    ap (λ (k : ℕ). get_or line.window k nan) (sym i.2) ∙ sees i.0 i.1

-- ---- what a stream leaves
same_line : (a b : Line) → a.window ≡ b.window → a.cursor ≡ b.cursor → line_at a.window a.cursor ≡ line_at b.window b.cursor
same_line a b q r = rw (q, r)

module _ (p : ℕ) (e : ℕ → Float) where
  after_length : (n : ℕ) (line : Line) → length (after p e n line).window ≡ length line.window
  unfolding after
  after_length zero line = refl
  after_length (suc n) line = simp length-set (after_length n line)

  after_cursor : (n : ℕ) (line : Line) → line.cursor < tap_count p → (after p e n line).cursor ≡ (line.cursor + n) % tap_count p
  unfolding after
  after_cursor zero line h = rw (add-zero line.cursor, mod-eq_of_lt h)
  after_cursor (suc n) line h = rw (after_cursor n line h, mod-add-mod (line.cursor + n) (tap_count p) 1) (ap (λ (k : ℕ). k % tap_count p) (omega (arith, add-suc line.cursor n)))

  -- what lies past the ring is as it was
  after_past : (n : ℕ) (line : Line) → line.cursor < tap_count p → (j : ℕ) → tap_count p ≤ j → get_or (after p e n line).window j nan ≡ get_or line.window j nan
  unfolding after
  after_past zero line h j l = refl
  after_past (suc n) line h j l =
      let stays = cursor_stays p e n line h in
      get_or-set_other (after p e n line).window (after p e n line).cursor j (e n) nan (λ (q : j ≡ (after p e n line).cursor). omega arith) ∙ after_past n line h j l

  -- two windows that whole values have gone through hold the same, where they do past the ring
  forgets : (n : ℕ) (a b : Line) → a.cursor ≡ b.cursor → a.cursor < tap_count p → tap_count p ≤ length a.window → length a.window ≡ length b.window
      → ((j : ℕ) → tap_count p ≤ j → get_or a.window j nan ≡ get_or b.window j nan) → tap_count p ≤ n → after p e n a ≡ after p e n b
  forgets n a b same h long alike past enough =
      let hb : b.cursor < tap_count p = rw same at h in
      let cursors : (after p e n a).cursor ≡ (after p e n b).cursor = after_cursor n a h ∙ rw same (sym (after_cursor n b hb)) in
      let lengths : length (after p e n a).window ≡ length (after p e n b).window = after_length n a ∙ alike ∙ sym (after_length n b) in
      let ringed : (j : ℕ) → j < tap_count p → get_or (after p e n a).window j nan ≡ get_or (after p e n b).window j nan =
      λ j k.
      let i = seen_at p (after p e n a).cursor j (cursor_stays p e n a h) k in
      let left : view p (after p e n a) i.0 ≡ e (n + i.0 - tap_count p) = view_entered p e a long h n i.0 i.1 (omega arith) in
      let right : view p (after p e n b) i.0 ≡ e (n + i.0 - tap_count p) = view_entered p e b (omega arith) hb n i.0 i.1 (omega arith) in
      let there : ((after p e n b).cursor + i.0) % tap_count p ≡ j = rw (sym cursors) i.2 in
      ap (λ (m : ℕ). get_or (after p e n a).window m nan) (sym i.2) ∙ left ∙ sym right ∙ ap (λ (m : ℕ). get_or (after p e n b).window m nan) there
      in
      let windows : (after p e n a).window ≡ (after p e n b).window =
      ext_get_or nan _ _ lengths λ j l.
      ⊎_elim (λ (k : j < tap_count p). ringed j k) (λ (k : tap_count p ≤ j). after_past n a h j k ∙ past j k ∙ sym (after_past n b hb j k)) (lt_or_le j (tap_count p))
      in
      same_line (after p e n a) (after p e n b) windows cursors

-- of m + n values the last n are enough, where they fill the ring: the cursor alone has to pass the others
pub last_enough : (p : ℕ) (e : ℕ → Float) (m n : ℕ) (window : List Float) (cursor : ℕ) → tap_count p ≤ length window → cursor < tap_count p → tap_count p ≤ n
    → after p e (m + n) (line_at window cursor) ≡ after p (λ (j : ℕ). e (m + j)) n (line_at window ((cursor + m) % tap_count p))
last_enough p e m n window cursor long inside enough =
    let line = line_at window cursor in
    after_cut p e m n line
    ∙ forgets p (λ (j : ℕ). e (m + j)) n (after p e m line) (line_at window ((cursor + m) % tap_count p)) (after_cursor p e m line inside) (cursor_stays p e m line inside)
    (rw (after_length p e m line) long) (after_length p e m line) (after_past p e m line inside) enough

-- ---- the hypotheses can be met: a fresh window at 48 kHz, and what is seen of it after one value
fresh_line : Line
fresh_line = record { window = replicate 81 (of_bits binary32 0); cursor = 0 }

fresh_entered : (e : ℕ → Float) → view 10 (after 10 e 1 fresh_line) 80 ≡ e 0
unfolding fresh_line
fresh_entered e = view_entered 10 e fresh_line (let n = length-replicate 81 (of_bits binary32 0) in omega arith) (lit< tt) 1 80 (lit< tt) (lit≤ tt)

fresh_place : get_or fresh_line.window 7 nan ≡ of_bits binary32 0
unfolding fresh_line
fresh_place = place_seen 10 fresh_line (of_bits binary32 0) (lit< tt) (λ i l. get_or-replicate 81 ((0 + i) % 81) (of_bits binary32 0) nan (mod-lt (0 + i) (lit< tt))) 7 (lit< tt)

fresh_kept : (e : ℕ → Float) → view 10 (after 10 e 1 fresh_line) 7 ≡ view 10 fresh_line 8
unfolding fresh_line
fresh_kept e = view_kept 10 e fresh_line (let n = length-replicate 81 (of_bits binary32 0) in omega arith) (lit< tt) 1 7 (lit< tt)

fresh_last : (e : ℕ → Float) → after 10 e 91 fresh_line ≡ after 10 (λ (j : ℕ). e (1 + j)) 90 (line_at fresh_line.window 1)
unfolding fresh_line
fresh_last e = last_enough 10 e 1 90 (replicate 81 (of_bits binary32 0)) 0 (let n = length-replicate 81 (of_bits binary32 0) in omega arith) (lit< tt) (lit≤ tt)

-- at 24 kHz the same window has a ring of 41
fresh_last_24 : (e : ℕ → Float) → after 5 e 46 fresh_line ≡ after 5 (λ (j : ℕ). e (1 + j)) 45 (line_at fresh_line.window 1)
unfolding fresh_line
fresh_last_24 e = last_enough 5 e 1 45 (replicate 81 (of_bits binary32 0)) 0 (let n = length-replicate 81 (of_bits binary32 0) in omega arith) (lit< tt) (lit≤ tt)
