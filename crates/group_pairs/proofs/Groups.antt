-- The largest pair of a group, from the least and the largest total and where each first stands. Assumes nothing.
use mathlib.Core.Path.{◌≡◌, refl, sym, ap, ap₂, ◌∙◌}
use mathlib.Core.Logic.{◌⊎◌, inl, inr}
use mathlib.Core.Bool.{Bool, true, false, cond}
use mathlib.Core.List.{List}
use Prim.Native.Nat.{ℕ, suc, ◌+◌, ◌*◌, ◌≤◌, ◌<◌, min, max}
use native.Mathlib.Nat.{mul-le-mul_right, mul-lt-mul_of_pos_right}
use native.Mathlib.Numerals.{add-one}
use native.Mathlib.Decide.{ℕ_discrete}
use native.Mathlib.Omega.{arith}
use lib.ListN.{length}
use lib.IntN.{ℤ, pos, nat_abs, ◌-ℤ◌}
use mir.Syntax.{w64}
use mir.Val.{SFits}
use lib.Signed.{lt_z, ◌≤ℤ◌, ◌<ℤ◌}
use Rattle.std.specs.Int.{int_min, int_max}
use Rattle.integer.proofs.Arithmetic.{zarith, abs, sub, le_or_lt}
use Rattle.integer.proofs.Ranges.{lt_or_ge}
use Rattle.one_word.specs.OneWord.{distance}
use Rattle.group_pairs.specs.declared.Pair.{Pair}
use Rattle.group_pairs.specs.Pairs.{NotAfter, IsLargest}
use Rattle.group_pairs.specs.Groups.{total_at, most_total, apart_in, Small, IsGroup, Has, NoneBefore, FirstWith, Spans, InGroup, GroupPair}

-- ---- numbers between low and high

module _ (low high x y : ℤ) (a : low ≤ℤ x) (b : x ≤ℤ high) (c : low ≤ℤ y) (d : y ≤ℤ high) where
  spread : distance x y ≤ distance low high
  spread = omega (zarith, sub x y, sub low high, abs (x -ℤ y), abs (low -ℤ high))

  -- only the ends lie so far apart
  ends : distance x y ≡ distance low high → ((x ≡ low) × (y ≡ high)) ⊎ ((x ≡ high) × (y ≡ low))
  ends e = go (le_or_lt x y)
    where
      go : (x ≤ℤ y) ⊎ (y <ℤ x) → ((x ≡ low) × (y ≡ high)) ⊎ ((x ≡ high) × (y ≡ low))
      go (inl l) = inl (omega (zarith, sub x y, sub low high, abs (x -ℤ y), abs (low -ℤ high)), omega (zarith, sub x y, sub low high, abs (x -ℤ y), abs (low -ℤ high)))
      go (inr l) = inr (omega (zarith, sub x y, sub low high, abs (x -ℤ y), abs (low -ℤ high)), omega (zarith, sub x y, sub low high, abs (x -ℤ y), abs (low -ℤ high)))

distance_swap : (x y : ℤ) → distance x y ≡ distance y x
distance_swap x y = omega (zarith, sub x y, sub y x, abs (x -ℤ y), abs (y -ℤ x))

pub distance-up : (low high : ℤ) → low ≤ℤ high → pos (distance low high) ≡ high -ℤ low
distance-up low high h = omega (zarith, sub low high, sub high low, abs (low -ℤ high))

-- ---- the range of the first s of a group, and one more

-- the new number where the test holds, else the old one
abbrev Chosen : Bool → ℤ → ℤ → ℤ → Type 0
Chosen t new old z = ((t ≡ true) × (z ≡ new)) ⊎ ((t ≡ false) × (z ≡ old))

chosen : (t : Bool) (new old z : ℤ) → z ≡ cond t new old → Chosen t new old z
chosen true new old z e = inl (refl, e)
chosen false new old z e = inr (refl, e)

module _ (totals : List ℤ) (first weight : ℕ) where
  abbrev total : ℕ → ℤ
  total s = total_at totals (first + s * weight)

  pub spans-one : Spans totals first weight 1 (total_at totals first) (total_at totals first)
  spans-one = record { low-has = has; high-has = has; least = λ s h. rw (at s h) (omega zarith); most = λ s h. rw (at s h) (omega zarith) }
    where
      at : (s : ℕ) → s < 1 → total s ≡ total_at totals first
      at s h = let z : s ≡ 0 = omega arith in let e : first + 0 * weight ≡ first = omega arith in rw (z, e)

      has : Has totals first weight 1 (total_at totals first)
      has = record { s = 0; inside = omega arith; total = at 0 (omega arith) }

  module _ (s : ℕ) (low high : ℤ) (f : Spans totals first weight s low high) where
    has_new : Has totals first weight (s + 1) (total s)
    has_new = record { s = s; inside = omega arith; total = refl }

    has_old : (z : ℤ) → Has totals first weight s z → Has totals first weight (s + 1) z
    has_old z h = record { s = h.s; inside = omega (arith, h.inside); total = h.total }

    -- what holds of the first s and of the new one
    each : (Q : ℤ → Type 0) → ((t : ℕ) → t < s → Q (total t)) → Q (total s) → (t : ℕ) → t < s + 1 → Q (total t)
    each Q f q t h = go (ℕ_discrete t s)
      where
        go : Dec (t ≡ s) → Q (total t)
        go (yes e) = rw e q
        go (no e) = f t (omega arith)

    lowered : (low' : ℤ) → Chosen (lt_z (total s) low) (total s) low low' → Has totals first weight (s + 1) low' × ((t : ℕ) → t < s + 1 → low' ≤ℤ total t)
    lowered low' (inl (l, e)) = rw e (has_new, each (λ (z : ℤ). total s ≤ℤ z) (λ t h. omega (zarith, f.least t h)) (omega zarith))
    lowered low' (inr (l, e)) = rw e (has_old low f.low-has, each (λ (z : ℤ). low ≤ℤ z) f.least (omega zarith))

    raised : (high' : ℤ) → Chosen (lt_z (total s) high) high (total s) high' → Has totals first weight (s + 1) high' × ((t : ℕ) → t < s + 1 → total t ≤ℤ high')
    raised high' (inl (l, e)) = rw e (has_old high f.high-has, each (λ (z : ℤ). z ≤ℤ high) f.most (omega zarith))
    raised high' (inr (l, e)) = rw e (has_new, each (λ (z : ℤ). z ≤ℤ total s) (λ t h. omega (zarith, f.most t h)) (omega zarith))

    pub spans-more : (x low' high' : ℤ) → x ≡ total s → low' ≡ int_min low x → high' ≡ int_max high x → Spans totals first weight (s + 1) low' high'
    spans-more x low' high' e p q =
        let l = lowered low' (rw e at (chosen (lt_z x low) x low low' p)) in
        let h = raised high' (rw e at (chosen (lt_z x high) high x high' q)) in
        record { low-has = l.0; high-has = h.0; least = l.1; most = h.1 }

-- ---- the search for the first of a group with the total z: the last has it where none before has

pub search_exhausts : (totals : List ℤ) (first weight count : ℕ) (z : ℤ) (s : ℕ) → count ≤ s + 1 → NoneBefore totals first weight z s → Has totals first weight count z → FirstWith totals first weight z (first + s * weight)
search_exhausts totals first weight count z s e before has = record { s = s; at-is = refl; total = go (lt_or_ge has.s s); before = before }
  where
    go : (has.s < s) ⊎ (s ≤ has.s) → total_at totals (first + s * weight) ≡ z
    go (inl l) = absurd (before has.s l has.total)
    go (inr l) = let e : s ≡ has.s = omega (arith, has.inside) in rw e has.total

-- the group's second sentence is there too
pub second : (totals : List ℤ) (first weight count : ℕ) → IsGroup totals first weight count → first + weight < length totals
second totals first weight count group = omega (arith, group.inside 1 group.two)

-- two totals that first stand at one place are one
pub one-place-one-total : (totals : List ℤ) (first weight : ℕ) (z u : ℤ) (x y : ℕ) → FirstWith totals first weight z x → FirstWith totals first weight u y → x ≡ y → z ≡ u
one-place-one-total totals first weight z u x y f g e = sym f.total ∙ ap (total_at totals) e ∙ g.total

-- ---- a group

module _ (totals : List ℤ) (first weight count : ℕ) (group : IsGroup totals first weight count) (low high : ℤ) (spans : Spans totals first weight count low high) where
  pub low-high : low ≤ℤ high
  low-high = let h = spans.low-has in rw h.total at (spans.most h.s h.inside)

  pub span_fits : Small totals → SFits w64 (high -ℤ low)
  span_fits f =
      let l = spans.low-has in
      let h = spans.high-has in
      let a : nat_abs low ≤ most_total = rw l.total at (f.each _ (group.inside l.s l.inside)) in
      let b : nat_abs high ≤ most_total = rw h.total at (f.each _ (group.inside h.s h.inside)) in
      omega (zarith, abs low, abs high)

  -- a pair's totals lie in the range
  module _ (a b : ℕ) (q : InGroup first weight count a b) where
    within : (low ≤ℤ total_at totals a) × ((total_at totals a ≤ℤ high) × ((low ≤ℤ total_at totals b) × (total_at totals b ≤ℤ high)))
    within =
        let s : q.s < count = omega (arith, q.ordered, q.inside) in
        rw (q.first-is, q.second_is) (spans.least q.s s, (spans.most q.s s, (spans.least q.t q.inside, spans.most q.t q.inside)))

    pub no-further : apart_in totals a b ≤ distance low high
    no-further = let w = within in spread low high _ _ w.0 w.1.0 w.1.1.0 w.1.1.1

    at-ends : apart_in totals a b ≡ distance low high → ((total_at totals a ≡ low) × (total_at totals b ≡ high)) ⊎ ((total_at totals a ≡ high) × (total_at totals b ≡ low))
    at-ends = let w = within in ends low high _ _ w.0 w.1.0 w.1.1.0 w.1.1.1

  -- ---- the two ends, x and y, of which x comes first

  -- the sentence that first has a total stands in the group, not behind another that has it
  not_behind : (z : ℤ) (at : ℕ) (f : FirstWith totals first weight z at) (t : ℕ) → total_at totals (first + t * weight) ≡ z → f.s ≤ t
  not_behind z at f t e = go (lt_or_ge t f.s)
    where
      go : (t < f.s) ⊎ (f.s ≤ t) → f.s ≤ t
      go (inl l) = absurd (f.before t l e)
      go (inr l) = l

  earlier : (s t : ℕ) → s < t → first + s * weight < first + t * weight
  earlier s t l = omega (arith, mul-lt-mul_of_pos_right l group.apart)

  not_later : (s t : ℕ) → s ≤ t → first + s * weight ≤ first + t * weight
  not_later s t l = omega (arith, mul-le-mul_right weight l)

  module _ (u w : ℤ) (far : distance u w ≡ distance low high) (both : (a b : ℕ) → InGroup first weight count a b → apart_in totals a b ≡ distance low high → ((total_at totals a ≡ u) × (total_at totals b ≡ w)) ⊎ ((total_at totals a ≡ w) × (total_at totals b ≡ u))) (has : Has totals first weight count w) (x y : ℕ) (fx : FirstWith totals first weight u x) (fy : FirstWith totals first weight w y) (less : x < y) where
    steps_less : fx.s < fy.s
    steps_less = go (lt_or_ge fx.s fy.s)
      where
        go : (fx.s < fy.s) ⊎ (fy.s ≤ fx.s) → fx.s < fy.s
        go (inl l) = l
        go (inr l) = absurd (omega (arith, not_later fy.s fx.s l, fx.at-is, fy.at-is))

    ends-apart : apart_in totals x y ≡ distance low high
    ends-apart = ap₂ distance fx.total fy.total ∙ far

    -- a pair as far apart has both ends, each not before where it first stands
    early : (a b : ℕ) (q : InGroup first weight count a b) → ((total_at totals a ≡ u) × (total_at totals b ≡ w)) ⊎ ((total_at totals a ≡ w) × (total_at totals b ≡ u)) → NotAfter x y a b
    early a b q (inl (e, g)) = go (lt_or_ge fx.s q.s)
      where
        sx : fx.s ≤ q.s
        sx = not_behind u x fx q.s (rw q.first-is at e)

        sy : fy.s ≤ q.t
        sy = not_behind w y fy q.t (rw q.second_is at g)

        go : (fx.s < q.s) ⊎ (q.s ≤ fx.s) → NotAfter x y a b
        go (inl l) = inl (omega (arith, earlier fx.s q.s l, fx.at-is, q.first-is))
        go (inr l) = inr (omega (arith, not_later fx.s q.s sx, not_later q.s fx.s l, fx.at-is, q.first-is), omega (arith, not_later fy.s q.t sy, fy.at-is, q.second_is))
    early a b q (inr (e, g)) =
        let sy : fy.s ≤ q.s = not_behind w y fy q.s (rw q.first-is at e) in
        inl (omega (arith, not_later fy.s q.s sy, fy.at-is, q.first-is))

    ends-largest : IsLargest (InGroup first weight count) (apart_in totals) x y
    ends-largest = record {
      pair = record { s = fx.s; t = fy.s; ordered = steps_less; inside = omega (arith, not_behind w y fy has.s has.total, has.inside); first-is = fx.at-is; second_is = fy.at-is };
      largest = λ a b q. omega (arith, no-further a b q, ends-apart);
      earliest = λ a b q e. early a b q (both a b q (e ∙ ends-apart));
    }

    ends-pair : (m : Pair) → m ≡ record { distance = high -ℤ low; first = suc x; second = suc y } → GroupPair totals first weight count m
    ends-pair m e = record {
      i = x;
      j = y;
      pair_is = e ∙ ap (λ (z : ℤ). record { distance = z; first = suc x; second = suc y }) (sym (ap pos ends-apart ∙ distance-up low high low-high));
      largest = ends-largest;
    }

  -- ---- whichever end comes first, and where both are one

  pub low_first : (x y : ℕ) → FirstWith totals first weight low x → FirstWith totals first weight high y → x < y → (m : Pair) → m ≡ record { distance = high -ℤ low; first = suc x; second = suc y } → GroupPair totals first weight count m
  low_first = ends-pair low high refl at-ends spans.high-has

  pub high-first : (x y : ℕ) → FirstWith totals first weight high x → FirstWith totals first weight low y → x < y → (m : Pair) → m ≡ record { distance = high -ℤ low; first = suc x; second = suc y } → GroupPair totals first weight count m
  high-first = ends-pair high low (distance_swap high low) (λ a b q e. swap (at-ends a b q e)) spans.low-has
    where
      swap : {A B : Type 0} → A ⊎ B → B ⊎ A
      swap (inl a) = inr a
      swap (inr b) = inl b

  -- as the code makes it
  pub apart-pair : (x y : ℕ) → FirstWith totals first weight low x → FirstWith totals first weight high y → (x ≡ y → ⊥) → (z : ℤ) → z ≡ high -ℤ low → GroupPair totals first weight count (record { distance = z; first = min x y + 1; second = max x y + 1 })
  apart-pair x y f g n z e = go (lt_or_ge x y)
    where
      go : (x < y) ⊎ (y ≤ x) → GroupPair totals first weight count (record { distance = z; first = min x y + 1; second = max x y + 1 })
      go (inl l) = let p : min x y ≡ x = omega arith in let q : max x y ≡ y = omega arith in low_first x y f g l _ (rw (p, q, e, add-one, add-one))
      go (inr l) = let p : min x y ≡ y = omega arith in let q : max x y ≡ x = omega arith in high-first y x g f (omega arith) _ (rw (p, q, e, add-one, add-one))

  pub level-pair : low ≡ high → (m : Pair) → m ≡ record { distance = high -ℤ low; first = suc first; second = suc (first + weight) } → GroupPair totals first weight count m
  level-pair e m q = record {
    i = first;
    j = first + weight;
    pair_is = q ∙ ap (λ (z : ℤ). record { distance = z; first = suc first; second = suc (first + weight) }) (omega (zarith, none first (first + weight) two, sub high low));
    largest = record { pair = two; largest = λ a b r. omega (arith, none a b r, none first (first + weight) two); earliest = λ a b r z. early a b r (lt_or_ge 0 r.s) };
  }
    where
      two : InGroup first weight count first (first + weight)
      two = record { s = 0; t = 1; ordered = omega arith; inside = omega (arith, group.two); first-is = omega arith; second_is = omega arith }

      none : (a b : ℕ) → InGroup first weight count a b → apart_in totals a b ≡ 0
      none a b r = omega (zarith, no-further a b r, sub low high, abs (low -ℤ high))

      early : (a b : ℕ) (r : InGroup first weight count a b) → (0 < r.s) ⊎ (r.s ≤ 0) → NotAfter first (first + weight) a b
      early a b r (inl l) = inl (omega (arith, earlier 0 r.s l, r.first-is))
      early a b r (inr l) = let z : r.s ≡ 0 = omega arith in inr (omega (arith, r.first-is, ap (λ (n : ℕ). n * weight) z), omega (arith, not_later 1 r.t (omega (arith, r.ordered)), r.second_is))
