-- One turn of the walk's loop over a double array, from the state that is carried as `c` with the back-offs `given`: the loop's invariant is that the walk of each word v whose
-- node is in the given slot has come to the node in slot s, and that the sums are those of the back-offs in the lent array. Assumes nothing.
use Rattle.std.specs.declared.option.Option.TheVariants.{Some, None}
use mathlib.Core.Path.{◌≡◌, refl, sym, ap, ◌∙◌, subst}
use mathlib.Core.Bool.{Bool, true, false, not, ◌&&◌, ◌||◌, true≢false}
use mathlib.Core.List.{List}
use Prim.Native.Nat.{ℕ, suc, ◌+◌, ◌*◌, ◌/◌, ◌%◌, ◌≤◌, ◌<◌, zero-le}
use native.Mathlib.Numerals.{add-one}
use native.Mathlib.Nat.{le_trans, mul-le-mul_right}
use native.Mathlib.Omega.{arith}
use native.Mathlib.Decide.{dec_lt}
use borrow.Author.Tests.{lt-ltb}
use lib.Dec.{ltb, lit≤}
use lib.ListN.{length, get_or, set, take, drop}
use lib.Seq.{length-take-le, get_or-take}
use lib.IntN.{ℤ, pos, nat_abs, ◌+ℤ◌, ◌-ℤ◌}
use mir.Syntax.{w32}
use mir.Val.{SFits}
use Rattle.integer.specs.Integer.{eq_z, sum}
use Rattle.integer.proofs.Ranges.{and_both}
use Rattle.backoff.specs.Limits.{largest_backoff}
use Rattle.backoff.specs.Words.{radix}
use Rattle.backoff.proofs.Sizes.{backoffs-size}
use Rattle.markers.specs.Markers.{Sound, Broken}
use Rattle.child_slots.specs.Children.{child_at}
use Rattle.child_slots.proofs.Children.{child-inside}
use Rattle.double_array.specs.DoubleArray.{kept_marker, marker_at, is_array, order_in, store_in}
use Rattle.double_array.proofs.DoubleArray.{IsMarker, kept_told, marker_kept, opened-sizes, opened-order}
use Rattle.carried_state.specs.declared.Packed.{Packed}
use Rattle.carried_state.specs.Packed.{digits, held_in, Carries}
use Rattle.carried_state.proofs.Digits.{drop_digits, length_digits, digit_at}
use Rattle.word_walk.specs.declared.Kept.{Kept}
use Rattle.word_walk.specs.Walk.{longest_live, ended_at, stored_at, meets_broken, Read, WalkedOver}
use Rattle.word_walk.proofs.Owing.{Owing, owing_begins, size_fits, below-five, owed_less, total-more, now_owed, owing_on, points_fit}
use Rattle.word_walk.proofs.Walking.{Walking, walking_begins, walking_broken, walking_on, walking_stops}
use Rattle.word_walk.proofs.Ending.{walk_ends}

pub record Loop (base check : List ℤ) (slot count words : ℕ) (given backoffs : List ℤ) (older : ℕ) (owed : ℤ) (s passed : ℕ) (total : ℤ) (kept : Kept) : Type 0 where
  pub inside : s < length base
  pub few : passed ≤ count
  pub older_is : older ≡ drop_digits passed words
  pub owing : Owing count given passed kept total owed backoffs
  pub walking : (v : ℕ) → child_at base check 0 v ≡ Some slot → Walking base check v (take count (digits 4 words)) s passed kept backoffs

-- no more words are passed than the loop's two bounds let
pub no_more : (j count : ℕ) → j ≤ count → count ≤ 4 → (ltb j count && ltb j 4) ≡ false → j ≡ count
no_more j count few four none = go (dec_lt j count)
  where
    go : Dec (j < count) → j ≡ count
    go (yes h) = absurd (true≢false (sym (and_both _ _ (lt-ltb j count h) (lt-ltb j 4 (omega arith))) ∙ none))
    go (no h) = omega arith

module _ (base check : List ℤ) (h : is_array base check ≡ true) (slot : ℕ) (c : Packed) (given : List ℤ) (carries : Carries (order_in check) c given) where
  -- the state's words and back-offs
  abbrev words : List ℕ
  words = take c.count (digits 4 c.words)

  abbrev left : List ℤ
  left = take c.count given

  count-short : c.count < order_in check
  count-short = omega (arith, opened-order base check h, carries.few)

  pub count-few : c.count ≤ 4
  count-few = omega (arith, opened-order base check h, count-short)

  length-words : length words ≡ c.count
  length-words = length-take-le c.count (digits 4 c.words) (omega (arith, count-few, length_digits 4 c.words))

  in_words : {j : ℕ} → j ≤ c.count → j ≤ length words
  in_words {j} k = subst (λ (n : ℕ). j ≤ n) (sym length-words) k

  room : c.count ≤ length given
  room = omega (arith, count-few, carries.five)

  owed-size : (j : ℕ) → nat_abs (sum (drop j left)) ≤ 4 * largest_backoff
  owed-size j = omega (arith, backoffs-size left j carries.in_backoffs, length-take-le c.count given room, count-few)

  pub loop_begins : slot < length base → Loop base check slot c.count c.words given given c.words c.owed slot 0 (pos 0) (record { count = 0; owed = pos 0 })
  loop_begins inside = record {
    inside = inside;
    few = zero-le;
    older_is = refl;
    owing = owing_begins c.count given c.owed carries.owed;
    walking = λ v e. walking_begins base check v words slot given (omega (arith, length-words, count-short)) h e;
  }

  module _ (backoffs : List ℤ) (older : ℕ) (owed : ℤ) (s passed : ℕ) (total : ℤ) (kept : Kept) (l : Loop base check slot c.count c.words given backoffs older owed s passed total kept) where
    pub long : length backoffs ≡ 5
    long = l.owing.long ∙ carries.five

    pub owed_small : nat_abs owed ≤ 4 * largest_backoff
    owed_small = rw l.owing.owed-is (owed-size passed)

    -- there are no more words
    module _ (all : passed ≡ c.count) where
      pub total_small : nat_abs total ≤ 4 * largest_backoff
      total_small = le_trans l.owing.total_small (mul-le-mul_right largest_backoff (le_trans l.few count-few))

      pub loop_ends : (v : ℕ) → child_at base check 0 v ≡ Some slot → WalkedOver (store_in base check) (held_in c given) v (ended_at (marker_at base check (c.count + 1) s) c.count owed total kept) (stored_at (marker_at base check (c.count + 1) s) c.count backoffs)
      loop_ends v e =
          let m = marker_at base check (c.count + 1) s in
          let deep : suc passed ≡ c.count + 1 = ap suc all ∙ sym (add-one c.count) in
          subst (λ (j : ℕ). WalkedOver (store_in base check) (held_in c given) v (ended_at m j owed total kept) (stored_at m j backoffs)) all
          (walk_ends base check v words s passed kept backoffs (l.walking v e) c.count given total owed l.owing carries.five (all ∙ sym length-words) (omega (arith, length-words, count-few)) m (ap (λ (j : ℕ). marker_at base check j s) deep))

    -- there is one more
    module _ (more : passed < c.count) where
      pub under_five : passed < 5
      under_five = below-five more count-few

      passed-inside : passed < length given
      passed-inside = omega (arith, under_five, carries.five)

      -- the node keeps its marker
      marker_is : marker_at base check (suc passed) s ≡ kept_marker base check s
      marker_is = marker_kept base check (suc passed) s (λ q. absurd (omega (arith, more, count-short)))

      pub loop_broken : kept_marker base check s ≡ Broken → (v : ℕ) → child_at base check 0 v ≡ Some slot → meets_broken (store_in base check) words v ≡ true
      loop_broken e v k = walking_broken base check v words s passed kept backoffs (l.walking v k) (in_words l.few) (marker_is ∙ e)

      word-is : older % radix ≡ get_or words passed 0
      word-is =
          ap (λ (n : ℕ). n % radix) l.older_is
          ∙ digit_at 4 passed c.words (omega (arith, more, count-few))
          ∙ sym (get_or-take c.count (digits 4 c.words) passed 0 more)

      owed-next : owed -ℤ get_or backoffs passed (pos 0) ≡ sum (drop (passed + 1) left)
      owed-next = owed_less c.count given passed kept total owed backoffs l.owing passed-inside room more

      pub owed-fits : SFits w32 (owed -ℤ get_or backoffs passed (pos 0))
      owed-fits = rw owed-next (size_fits {n = 4} (sum (drop (passed + 1) left)) (owed-size (passed + 1)) (lit≤ tt))

      module _ (p b : ℤ) (x f : Bool) (e : kept_marker base check s ≡ Sound p b x f) where
        in_range : IsMarker base check s p b x f
        in_range = kept_told base check s p b x f e

        pub total-fits : SFits w32 (total +ℤ b)
        total-fits = size_fits (total +ℤ b) (total-more c.count given passed kept total owed backoffs l.owing passed-inside b in_range.b_in_range) (omega (arith, under_five))

        pub points-fit : SFits w32 (p +ℤ owed)
        points-fit = points_fit p owed in_range.p_in_range owed_small

        -- the row that ends here, or what was kept before it
        abbrev noted : Kept
        noted = longest_live kept (record { count = passed + 1; owed = total +ℤ b }) b f

        child-is : child_at base check s (get_or words passed 0) ≡ child_at base check s (older % radix)
        child-is = ap (child_at base check s) (sym word-is)

        pub loop_on : (u : ℕ) → child_at base check s (older % radix) ≡ Some u → Loop base check slot c.count c.words given (set backoffs passed b) (older / radix) (owed -ℤ get_or backoffs passed (pos 0)) u (passed + 1) (total +ℤ b) noted
        loop_on u k = record {
          inside = subst (λ (n : ℕ). u < n) (sym (opened-sizes base check h).same) (child-inside base check s (get_or words passed 0) u (child-is ∙ k));
          few = omega (arith, more);
          older_is = rw add-one (ap (λ (n : ℕ). n / radix) l.older_is);
          owing = owing_on c.count given passed kept total owed backoffs l.owing passed-inside b in_range.b_in_range room more (not (eq_z b (pos 0)) || f);
          walking = λ v g. walking_on base check v words s passed kept backoffs (l.walking v g) p b x f (marker_is ∙ e) (total +ℤ b) u (in_words more) (omega (arith, long, under_five)) (child-is ∙ k);
        }

        pub loop_stops : child_at base check s (older % radix) ≡ None → (v : ℕ) → child_at base check 0 v ≡ Some slot → Read (store_in base check) (held_in c given) v (p +ℤ owed) passed noted x (set backoffs passed b)
        loop_stops k v g =
            rw l.owing.owed-is
            (walking_stops base check v words s passed kept backoffs (l.walking v g) p b x f (marker_is ∙ e) (total +ℤ b) left long under_five
            (now_owed c.count given passed kept total owed backoffs l.owing passed-inside b in_range.b_in_range (not (eq_z b (pos 0)) || f))
            (in_words more) (child-is ∙ k))
