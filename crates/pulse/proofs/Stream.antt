-- A stream of values through the window, at a rate: what it leaves depends on no more than the values that entered, and a stream may be cut in two. Assumes nothing.
use mathlib.Core.Path.{◌≡◌, refl, sym, ap, ◌∙◌}
use mathlib.Core.List.{List, ◌++◌}
use Prim.Native.Nat.{ℕ, zero, suc, ◌+◌, ◌<◌}
use native.Mathlib.Nat.{mod-lt, add-zero, add-suc}
use native.Mathlib.Omega.{arith}
use lib.IntN.{ℤ}
use lib.ListN.{length, take, drop, set}
use lib.Ieee.{Float}
use Rattle.numbers.specs.Firsts.{firsts}
use Rattle.numbers.proofs.Firsts.{written_step, written_more, firsts_same}
use Rattle.shaping.specs.Rate.{Rate, tap_count}
use Rattle.pulse.specs.Pulse.{Line, pushed, after, sample_of, sample_at, Sent}

-- ---- the line
module _ (p : ℕ) where
  pub after_same : (e f : ℕ → Float) (n : ℕ) (line : Line) → ((i : ℕ) → i < n → e i ≡ f i) → after p e n line ≡ after p f n line
  unfolding after
  after_same e f zero line h = refl
  after_same e f (suc n) line h = rw (after_same e f n line (λ i l. h i (omega arith)), h n (omega arith))

  pub after_cut : (e : ℕ → Float) (m n : ℕ) (line : Line) → after p e (m + n) line ≡ after p (λ (j : ℕ). e (m + j)) n (after p e m line)
  unfolding after
  after_cut e m zero line = rw (add-zero m)
  after_cut e m (suc n) line = rw (add-suc m n, after_cut e m n line)

  -- what follows enters from where the first m left the line
  pub after_more : (e f : ℕ → Float) (m n : ℕ) (line now next : Line) → ((j : ℕ) → j < n → f j ≡ e (m + j)) → now ≡ after p e m line → next ≡ after p f n now → next ≡ after p e (m + n) line
  after_more e f m n line now next same first more =
      let g : ℕ → Float = λ (j : ℕ). e (m + j) in
      more ∙ after_same f g n now same ∙ ap (after p g n) first ∙ sym (after_cut e m n line)

  -- a cursor in the window stays in it
  pub cursor_stays : (e : ℕ → Float) (n : ℕ) (line : Line) → line.cursor < tap_count p → (after p e n line).cursor < tap_count p
  unfolding after
  cursor_stays e zero line h = h
  cursor_stays e (suc n) line h = mod-lt _ (omega arith)

  pub after_cursor_stays : (e : ℕ → Float) (n : ℕ) (line next : Line) → line.cursor < tap_count p → next ≡ after p e n line → next.cursor < tap_count p
  after_cursor_stays e n line next h same = rw same (cursor_stays e n line h)

  pub pushed_cursor : (line next : Line) (value : Float) → next ≡ pushed p line value → next.cursor < tap_count p
  pushed_cursor line next value e = rw e (mod-lt _ (omega arith))

-- ---- the samples
module _ (R : Rate) where
  -- the samples after the first m are those of the rest of the stream
  sample_cut : (e : ℕ → Float) (m j : ℕ) (line : Line) → sample_at R e line (m + j) ≡ sample_at R (λ (k : ℕ). e (m + k)) (after R.p e m line) j
  sample_cut e m j line = ap (sample_of R) (rw (← add-suc m j) (after_cut R.p e m (suc j) line))

  sample_same : (e f : ℕ → Float) (n : ℕ) (line : Line) → ((i : ℕ) → i < n → e i ≡ f i) → (t : ℕ) → t < n → sample_at R e line t ≡ sample_at R f line t
  sample_same e f n line h t l = ap (sample_of R) (after_same R.p e f (suc t) line (λ i k. h i (omega arith)))

  -- nothing has entered yet
  pub sent_none : (e : ℕ → Float) (line : Line) (room : List ℤ) → Sent R e 0 line room line room
  unfolding after firsts
  sent_none e line room = record { enters = refl; writes = refl }

  -- one value, and its sample at the place that is next
  pub sent_one : (e : ℕ → Float) (n : ℕ) (line now next : Line) (room₀ room : List ℤ) (sample d : ℤ) → n < length room₀ → Sent R e n line room₀ now room
      → next ≡ pushed R.p now (e n) → sample ≡ sample_of R next → Sent R e (suc n) line room₀ next (set room n sample)
  unfolding after
  sent_one e n line now next room₀ room sample d h sent p q =
      let enters : next ≡ after R.p e (suc n) line = p ∙ ap (λ (l : Line). pushed R.p l (e n)) sent.enters in
      record {
        enters = enters;
        writes = rw (q, enters, sent.writes) (written_step (sample_at R e line) n room₀ d h);
      }

  -- what follows is sent from where the first m left the line, into the rest of the room
  pub sent_more : (e f : ℕ → Float) (m n : ℕ) (line now next : Line) (room₀ room rest : List ℤ)
      → ((j : ℕ) → j < n → f j ≡ e (m + j)) → Sent R e m line room₀ now room → Sent R f n now (drop m room) next rest
      → Sent R e (m + n) line room₀ next (take m room ++ rest)
  sent_more e f m n line now next room₀ room rest same first more =
      let g : ℕ → Float = λ (j : ℕ). e (m + j) in
      let samples : (j : ℕ) → j < n → sample_at R f now j ≡ sample_at R e line (m + j) =
      λ j l. sample_same f g n now same j l ∙ ap (λ (k : Line). sample_at R g k j) first.enters ∙ sym (sample_cut e m j line)
      in
      record {
        enters = after_more R.p e f m n line now next same first.enters more.enters;
        writes = rw (more.writes, first.writes) (written_more (sample_at R e line) (sample_at R f now) m n room₀ samples);
      }

  pub sent_cursor : (e : ℕ → Float) (n : ℕ) (line next : Line) (room₀ room : List ℤ) → line.cursor < tap_count R.p → Sent R e n line room₀ next room → next.cursor < tap_count R.p
  sent_cursor e n line next room₀ room h sent = after_cursor_stays R.p e n line next h sent.enters

  -- two streams that agree as far as they are sent
  pub sent_same : (e f : ℕ → Float) (n : ℕ) (line next : Line) (room₀ room : List ℤ) → ((i : ℕ) → i < n → e i ≡ f i)
      → Sent R e n line room₀ next room → Sent R f n line room₀ next room
  sent_same e f n line next room₀ room h sent = record {
    enters = sent.enters ∙ after_same R.p e f n line h;
    writes = sent.writes ∙ ap (λ (l : List ℤ). l ++ drop n room₀) (firsts_same _ _ n (sample_same e f n line h));
  }
