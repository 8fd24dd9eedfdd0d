-- Numbers below v ^ k that differ in one of their k digits to the base v: at which place, and by which digits there. Assumes nothing.
use mathlib.Core.Path.{◌≡◌, refl, sym, ap, ap₂, ◌∙◌}
use mathlib.Core.Logic.{◌⊎◌, inl, inr}
use mathlib.Core.Bool.{Bool, true, false}
use Prim.Native.Nat.{ℕ, zero, suc, ◌+◌, ◌*◌, ◌/◌, ◌%◌, ◌^◌, ◌≤◌, ◌<◌}
use native.Mathlib.Nat.{pow-zero, pow-suc, mod-lt, div-add-mod', div-eq_of_lt, mod-eq_of_lt, mul-add-div_right, add-mul-mod_self_right, div-lt_iff_lt-mul, mul-le-mul_right}
use native.Mathlib.Omega.{arith}
use lib.Dec.{eqb}
use borrow.Author.Tests.{eq-eqb, ne_eqb, eqb-true}
use Rattle.integer.proofs.Ranges.{lt_or_ge}
use Rattle.group_pairs.specs.Groups.{InGroup}
use Rattle.largest_pair.specs.Inner.{first_of, digits_apart}

module _ (v : ℕ) (some : 0 < v) where
  digits_same : (k i : ℕ) → digits_apart v k i i ≡ 0
  unfolding digits_apart
  digits_same zero i = refl
  digits_same (suc k) i = rw (eq-eqb (i % v) (i % v) refl, digits_same k (i / v))

  -- a number by its lowest digit r and the others
  lowest : (q r : ℕ) → r < v → (q * v + r) % v ≡ r
  lowest q r h = let e : q * v + r ≡ r + q * v = omega arith in rw e (add-mul-mod_self_right r q v ∙ mod-eq_of_lt h)

  others : (q r : ℕ) → r < v → (q * v + r) / v ≡ q
  others q r h = mul-add-div_right some q r ∙ omega (arith, div-eq_of_lt h)

  less : (k i : ℕ) → i < v ^ suc k → i / v < v ^ k
  less k i h = (div-lt_iff_lt-mul some).1 (rw pow-suc at h)

  others_less : (i j : ℕ) → i < j → i % v ≡ j % v → i / v < j / v
  others_less i j l e = go (lt_or_ge (i / v) (j / v))
    where
      go : (i / v < j / v) ⊎ (j / v ≤ i / v) → i / v < j / v
      go (inl m) = m
      go (inr m) = absurd (omega (arith, div-add-mod' i v, div-add-mod' j v, mul-le-mul_right v m))

  digits_equal : (k i j : ℕ) → i < v ^ k → j < v ^ k → digits_apart v k i j ≡ 0 → i ≡ j
  unfolding digits_apart
  digits_equal zero i j h l e = omega (arith, pow-zero v)
  digits_equal (suc k) i j h l e = go (eqb (i % v) (j % v)) refl (digits_equal k (i / v) (j / v) (less k i h) (less k j l))
    where
      go : (b : Bool) → eqb (i % v) (j % v) ≡ b → (digits_apart v k (i / v) (j / v) ≡ 0 → i / v ≡ j / v) → i ≡ j
      go false q f = absurd (let z : 1 + digits_apart v k (i / v) (j / v) ≡ 0 = rw q at e in omega arith)
      go true q f =
          let z : 0 + digits_apart v k (i / v) (j / v) ≡ 0 = rw q at e in
          let d : i / v ≡ j / v = f (omega arith) in
          omega (arith, div-add-mod' i v, div-add-mod' j v, ap (λ (n : ℕ). n * v) d, eqb-true (i % v) (j % v) q)

  -- ---- two numbers of one group

  -- the number with the digit s at a place, that leaves `block` before it and `group` behind it
  abbrev number_at : ℕ → ℕ → ℕ → ℕ → ℕ
  number_at place block group s = first_of v (v ^ place) block group + s * v ^ place

  number-last : (block group s : ℕ) → group < v ^ 0 → number_at 0 block group s ≡ block * v + s
  number-last block group s h = omega (arith, pow-zero v, ap (λ (n : ℕ). block * (n * v)) (pow-zero v), ap (λ (n : ℕ). s * n) (pow-zero v))

  number-before : (place block group s : ℕ) → number_at (suc place) block group s ≡ number_at place block (group / v) s * v + group % v
  number-before place block group s =
      let w = v ^ place in
      omega (arith, div-add-mod' group v, ap (λ (n : ℕ). block * (n * v)) (pow-suc v place), ap (λ (n : ℕ). s * n) (pow-suc v place))

  pub one-group : (k place block group s t : ℕ) → place < k → group < v ^ place → s < v → t < v → (s ≡ t → ⊥) → digits_apart v k (number_at place block group s) (number_at place block group t) ≡ 1
  unfolding digits_apart
  one-group zero place block group s t p g x y n = absurd (omega arith)
  one-group (suc k) zero block group s t p g x y n =
      rw (number-last block group s g, number-last block group t g, lowest block s x, lowest block t y, others block s x, others block t y, ne_eqb s t n, digits_same k block)
  one-group (suc k) (suc place) block group s t p g x y n =
      let r = group % v in
      let h : r < v = mod-lt group some in
      rw (number-before place block group s, number-before place block group t, lowest (number_at place block (group / v) s) r h, lowest (number_at place block (group / v) t) r h, others (number_at place block (group / v) s) r h, others (number_at place block (group / v) t) r h, eq-eqb r r refl)
      (omega (arith, one-group k place block (group / v) s t (omega arith) (less place group g) x y n))

  -- ---- and all that differ in one digit are such

  pub record OneGroup (k i j : ℕ) : Type 0 where
    pub place : ℕ
    pub block : ℕ
    pub group : ℕ
    pub low : place < k
    pub inside : group < v ^ place
    pub pair : InGroup (first_of v (v ^ place) block group) (v ^ place) v i j

  pub group_of : (k i j : ℕ) → i < j → j < v ^ k → digits_apart v k i j ≡ 1 → OneGroup k i j
  unfolding digits_apart
  group_of zero i j l h e = absurd (omega arith)
  group_of (suc k) i j l h e = go (eqb (i % v) (j % v)) refl (group_of k (i / v) (j / v))
    where
      last : digits_apart v k (i / v) (j / v) ≡ 0 → OneGroup (suc k) i j
      last z =
          let d : i / v ≡ j / v = digits_equal k (i / v) (j / v) (less k i (omega arith)) (less k j h) z in
          let m : i / v * v ≡ j / v * v = ap (λ (n : ℕ). n * v) d in
          record {
            place = 0;
            block = i / v;
            group = 0;
            low = omega arith;
            inside = omega (arith, pow-zero v);
            pair = record {
              s = i % v;
              t = j % v;
              ordered = omega (arith, div-add-mod' i v, div-add-mod' j v);
              inside = mod-lt j some;
              first-is = sym (number-last (i / v) 0 (i % v) (omega (arith, pow-zero v)) ∙ div-add-mod' i v);
              second_is = sym (number-last (i / v) 0 (j % v) (omega (arith, pow-zero v)) ∙ omega (arith, div-add-mod' j v));
            };
          }

      before : i % v ≡ j % v → OneGroup k (i / v) (j / v) → OneGroup (suc k) i j
      before q f =
          let r = i % v in
          let x : r < v = mod-lt i some in
          let g = f.group * v + r in
          let up : (n s : ℕ) → n / v ≡ number_at f.place f.block f.group s → n % v ≡ r → n ≡ number_at (suc f.place) f.block g s =
          λ n s a b. sym (div-add-mod' n v) ∙ ap₂ (λ (m c : ℕ). m * v + c) a b ∙ sym (number-before f.place f.block g s ∙ ap₂ (λ (m c : ℕ). number_at f.place f.block m s * v + c) (others f.group r x) (lowest f.group r x)) in
          record {
            place = suc f.place;
            block = f.block;
            group = g;
            low = omega (arith, f.low);
            inside = omega (arith, pow-suc v f.place, mul-le-mul_right {m = suc f.group} {n = v ^ f.place} v f.inside);
            pair = record {
              s = f.pair.s;
              t = f.pair.t;
              ordered = f.pair.ordered;
              inside = f.pair.inside;
              first-is = up i f.pair.s f.pair.first-is refl;
              second_is = up j f.pair.t f.pair.second_is (sym q);
            };
          }

      go : (b : Bool) → eqb (i % v) (j % v) ≡ b → (i / v < j / v → j / v < v ^ k → digits_apart v k (i / v) (j / v) ≡ 1 → OneGroup k (i / v) (j / v)) → OneGroup (suc k) i j
      go false q f = last (let z : 1 + digits_apart v k (i / v) (j / v) ≡ 1 = rw q at e in omega arith)
      go true q f =
          let z : 0 + digits_apart v k (i / v) (j / v) ≡ 1 = rw q at e in
          before (eqb-true (i % v) (j % v) q) (f (others_less i j l (eqb-true (i % v) (j % v) q)) (less k j h) (omega arith))
