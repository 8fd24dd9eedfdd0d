-- The walk of a word v through the words ws over a double array, as the code's loop has it. Assumes nothing.
use Rattle.std.specs.declared.option.Option.TheVariants.{Some, None}
use mathlib.Core.Path.{◌≡◌, refl, sym, ap, ap₂, ◌∙◌}
use mathlib.Core.Bool.{Bool, true, false, not, cond, ◌||◌, or-true, false≢true}
use mathlib.Core.Logic.{◌⊎◌, inl, inr}
use mathlib.Core.List.{List, [], ◌∷◌, ◌++◌, append-nil}
use Prim.Native.Nat.{ℕ, zero, suc, ◌+◌, ◌-◌, ◌≤◌, ◌<◌, min}
use native.Mathlib.Nat.{min-zero}
use native.Mathlib.Decide.{dec_lt, ℕ_discrete}
use native.Mathlib.Numerals.{add-one}
use native.Mathlib.Omega.{arith}
use borrow.Author.Count.{below_more}
use lib.ListN.{length, take, drop, get_or, set, length-set}
use lib.Seq.{take-suc, take_all, take-suc-set, append_snoc}
use lib.IntN.{ℤ, pos, ◌+ℤ◌}
use Rattle.integer.specs.Integer.{eq_z, sum}
use Rattle.backoff.specs.Model.{Model, listed, live, reach}
use Rattle.backoff.specs.State.{largest, backoffs_of, live_length, walk, points_from, extended_from}
use Rattle.backoff.specs.Store.{absent, broken, here, Store, is_broken, model_in, ends_broken}
use Rattle.backoff.proofs.Climb.{climb_stops, largest-here, largest-down}
use Rattle.markers.specs.Markers.{Sound, Broken}
use Rattle.child_slots.specs.Children.{child_at}
use Rattle.double_array.specs.DoubleArray.{marker_at, look_from, is_array, order_in, store_in}
use Rattle.double_array.proofs.DoubleArray.{own_told, marker_own, root-sound, look-here, look-down, look-broken}
use Rattle.carried_state.specs.Packed.{Owes}
use Rattle.word_walk.specs.declared.Kept.{Kept}
use Rattle.word_walk.specs.Rows.{array_model}
use Rattle.word_walk.specs.Walk.{longest_live, meets_broken, Read}
use Rattle.word_walk.proofs.Rows.{here-listed, here-probability, here-backoff, here-extended, here-live, absent-unlisted, broken-unlisted, listed-sound}

-- where the walk passes j words, it would go on at the next
ends_at : (S : Store) (ws : List ℕ) (v j : ℕ) → walk (model_in S) v ws ≡ j → ends_broken S ws v ≡ is_broken (S.look (v ∷ take (suc j) ws))
unfolding ends_broken
ends_at S ws v j e = rw e

-- the walk stops at j where it passes j words, and there are no more or the next leads nowhere
walk_stops : (M : Model) (v : ℕ) (ws : List ℕ) (j : ℕ) → j ≤ length ws → ((i : ℕ) → i ≤ j → listed M (v ∷ take i ws) ≡ true) → (j ≡ length ws) ⊎ (listed M (v ∷ take (suc j) ws) ≡ false) → walk M v ws ≡ j
unfolding walk
walk_stops M v ws j h f e = climb_stops (λ i. listed M (v ∷ take i ws)) (length ws) 0 j (omega arith) (omega arith) (λ i l u. f i u) (go e)
  where
    go : (j ≡ length ws) ⊎ (listed M (v ∷ take (suc j) ws) ≡ false) → (j ≡ 0 + length ws) ⊎ (listed M (v ∷ take (suc j) ws) ≡ false)
    go (inl z) = inl (omega arith)
    go (inr z) = inr z

-- the longest live row of fewer than n words, with one row more, which is not live where it has n
kept_more : (P : ℕ → Bool) (n j : ℕ) → (P (suc j) ≡ true → suc j < n) → cond (P (suc j)) (j + 1) (largest P (min (n - 1) j)) ≡ largest P (min (n - 1) (suc j))
kept_more P n j short = go (P (suc j)) refl (dec_lt (suc j) n)
  where
    go : (t : Bool) → P (suc j) ≡ t → Dec (suc j < n) → cond t (j + 1) (largest P (min (n - 1) j)) ≡ largest P (min (n - 1) (suc j))
    go true e d =
        let h = short e in
        let m : min (n - 1) (suc j) ≡ suc j = omega arith in
        rw m (add-one j ∙ sym (largest-here P j e))
    go false e (yes h) =
        let m : min (n - 1) (suc j) ≡ suc j = omega arith in
        let k : min (n - 1) j ≡ j = omega arith in
        rw (m, k) (sym (largest-down P j e))
    go false e (no h) =
        let m : min (n - 1) (suc j) ≡ min (n - 1) j = omega arith in
        rw m

-- the walk, through fewer words than the order, has come to the node in slot s, past `passed` of the words, with what was read at the nodes before it
pub record Walking (base check : List ℤ) (v : ℕ) (ws : List ℕ) (s passed : ℕ) (kept : Kept) (backoffs : List ℤ) : Type 0 where
  pub few : length ws < order_in check
  pub reached : (m : List ℕ) → (store_in base check).look (v ∷ (take passed ws ++ m)) ≡ look_from base check (suc passed) s m
  pub sound : (i : ℕ) → i < passed → listed (array_model base check) (v ∷ take i ws) ≡ true
  pub kept-is : kept.count ≡ live_length (array_model base check) (min (reach (array_model base check)) passed) (v ∷ ws)
  pub read : take passed backoffs ≡ backoffs_of (array_model base check) passed (v ∷ ws)

-- a live row has fewer words than the order
live-short : (base check : List ℤ) (k s : ℕ) (p b : ℤ) (x f : Bool) → marker_at base check k s ≡ Sound p b x f → k ≤ order_in check → (not (eq_z b (pos 0)) || f) ≡ true → k < order_in check
live-short base check k s p b x f e few lives = go (ℕ_discrete k (order_in check))
  where
    go : Dec (k ≡ order_in check) → k < order_in check
    go (yes q) =
        let o = own_told base check s p b x f (sym (marker_own base check k s q) ∙ e) in
        absurd (false≢true (rw (o.no-b, o.no-f) at lives))
    go (no q) = omega arith

module _ (base check : List ℤ) (v : ℕ) (ws : List ℕ) where
  -- it begins at the root's child for v
  pub walking_begins : (t : ℕ) (backoffs : List ℤ) → length ws < order_in check → is_array base check ≡ true → child_at base check 0 v ≡ Some t → Walking base check v ws t 0 (record { count = 0; owed = pos 0 }) backoffs
  walking_begins t backoffs few h e = record {
    few = few;
    reached = λ m. unfold store_in in look-down base check 0 0 _ _ _ _ v m (root-sound base check h) ∙ rw e;
    sound = λ i l. absurd (omega arith);
    kept-is = unfold live_length largest in rw (min-zero (reach (array_model base check)));
    read = unfold backoffs_of in refl;
  }

  module _ (s passed : ℕ) (kept : Kept) (backoffs : List ℤ) (w : Walking base check v ws s passed kept backoffs) where
    at_node : (store_in base check).look (v ∷ take passed ws) ≡ look_from base check (suc passed) s []
    at_node = ap (λ (l : List ℕ). (store_in base check).look (v ∷ l)) (sym (append-nil (take passed ws))) ∙ w.reached []

    past_node : (m : List ℕ) → passed < length ws → (store_in base check).look (v ∷ (take (suc passed) ws ++ m)) ≡ look_from base check (suc passed) s (get_or ws passed 0 ∷ m)
    past_node m h = ap (λ (l : List ℕ). (store_in base check).look (v ∷ l)) (rw (take-suc ws passed 0 h) (append_snoc (take passed ws) (get_or ws passed 0) m)) ∙ w.reached (get_or ws passed 0 ∷ m)

    -- a node without a sound marker
    pub walking_broken : passed ≤ length ws → marker_at base check (suc passed) s ≡ Broken → meets_broken (store_in base check) ws v ≡ true
    walking_broken h e = go passed refl
      where
        node : (store_in base check).look (v ∷ take passed ws) ≡ broken
        node = at_node ∙ look-broken base check (suc passed) s [] e

        go : (j : ℕ) → passed ≡ j → meets_broken (store_in base check) ws v ≡ true
        go zero q = rw (rw q at node)
        go (suc j) q =
            let stop : walk (array_model base check) v ws ≡ j = walk_stops (array_model base check) v ws j (omega arith) (λ i u. w.sound i (omega arith)) (inr (rw q at (broken-unlisted (store_in base check) (v ∷ take passed ws) node))) in
            rw (ends_at (store_in base check) ws v j stop, rw q at node) (or-true (is_broken ((store_in base check).look (v ∷ []))))

    -- a node with a sound one
    module _ (p b : ℤ) (x f : Bool) (e : marker_at base check (suc passed) s ≡ Sound p b x f) where
      node : (store_in base check).look (v ∷ take passed ws) ≡ here (record { p = p; b = b; e = x; f = f })
      node = at_node ∙ look-here base check (suc passed) s p b x f e

      sound-here : (i : ℕ) → i ≤ passed → listed (array_model base check) (v ∷ take i ws) ≡ true
      sound-here i h = below_more (λ (k : ℕ). listed (array_model base check) (v ∷ take k ws) ≡ true) passed w.sound (here-listed (store_in base check) (v ∷ take passed ws) node) i (omega arith)

      read_is : passed < length backoffs → take (suc passed) (set backoffs passed b) ≡ backoffs_of (array_model base check) (suc passed) (v ∷ ws)
      unfolding backoffs_of
      read_is h = take-suc-set backoffs passed b h ∙ ap₂ (λ (l : List ℤ) (x : ℤ). l ++ (x ∷ [])) w.read (sym (here-backoff (store_in base check) (v ∷ take passed ws) node))

      -- what the code notes of it, with the sum of the back-offs up to it
      module _ (total : ℤ) where
        abbrev noted : Kept
        noted = longest_live kept (record { count = passed + 1; owed = total }) b f

        noted_is : passed ≤ length ws → noted.count ≡ live_length (array_model base check) (min (reach (array_model base check)) (suc passed)) (v ∷ ws)
        unfolding live_length reach model_in store_in
        noted_is h =
            count_of (not (eq_z b (pos 0)) || f)
            ∙ rw (sym lives, w.kept-is) (kept_more (λ i. live (array_model base check) (take i (v ∷ ws))) (order_in check) passed (λ l. live-short base check (suc passed) s p b x f e (omega (arith, w.few)) (sym lives ∙ l)))
          where
            lives : live (array_model base check) (v ∷ take passed ws) ≡ (not (eq_z b (pos 0)) || f)
            lives = here-live (store_in base check) (v ∷ take passed ws) node

            count_of : (t : Bool) → (cond t (record { count = passed + 1; owed = total }) kept).count ≡ cond t (passed + 1) kept.count
            count_of true = refl
            count_of false = refl

        -- the walk goes on to the child for the next word
        pub walking_on : (u : ℕ) → passed < length ws → passed < length backoffs → child_at base check s (get_or ws passed 0) ≡ Some u → Walking base check v ws u (passed + 1) noted (set backoffs passed b)
        walking_on u h k c = record {
          few = w.few;
          reached = λ m. rw add-one (past_node m h ∙ look-down base check (suc passed) s p b x f (get_or ws passed 0) m e ∙ rw c);
          sound = λ i l. sound-here i (omega arith);
          kept-is = noted_is (omega arith) ∙ ap (λ (k : ℕ). live_length (array_model base check) (min (reach (array_model base check)) k) (v ∷ ws)) (sym (add-one passed));
          read = rw add-one (read_is k);
        }

        -- it ends here; `left` are the state's back-offs
        module _ (left : List ℤ) (five : length backoffs ≡ 5) (inside : passed < 5) (owed : Owes noted.count noted.owed (set backoffs passed b)) where
          ended : passed ≤ length ws → (passed ≡ length ws) ⊎ (listed (array_model base check) (v ∷ take (suc passed) ws) ≡ false) → is_broken ((store_in base check).look (v ∷ take (suc passed) ws)) ≡ false → Read (store_in base check) (record { words = ws; backoffs = left }) v (p +ℤ sum (drop passed left)) passed noted x (set backoffs passed b)
          unfolding points_from extended_from
          ended h o n =
              let stop : walk (array_model base check) v ws ≡ passed = walk_stops (array_model base check) v ws passed h sound-here o in
              record {
                sound = rw (listed-sound (store_in base check) (v ∷ []) (sound-here 0 (omega arith)), ends_at (store_in base check) ws v passed stop, n);
                passed_is = sym stop;
                points_are = rw (stop, here-probability (store_in base check) (v ∷ take passed ws) node);
                extended-is = rw (stop, here-extended (store_in base check) (v ∷ take passed ws) node);
                kept-is = noted_is h;
                owed = owed;
                five = length-set backoffs passed b ∙ five;
                read = read_is (omega arith);
              }

          -- there are no more words
          pub walking_ends : passed ≡ length ws → Read (store_in base check) (record { words = ws; backoffs = left }) v (p +ℤ sum (drop passed left)) passed noted x (set backoffs passed b)
          walking_ends h = ended (omega arith) (inl h) (ap (λ (l : List ℕ). is_broken ((store_in base check).look (v ∷ l))) same ∙ listed-sound (store_in base check) (v ∷ take passed ws) (sound-here passed (omega arith)))
            where
              same : take (suc passed) ws ≡ take passed ws
              same = take_all (suc passed) ws (omega arith) ∙ sym (take_all passed ws (omega arith))

          -- there is no child for the next word
          pub walking_stops : passed < length ws → child_at base check s (get_or ws passed 0) ≡ None → Read (store_in base check) (record { words = ws; backoffs = left }) v (p +ℤ sum (drop passed left)) passed noted x (set backoffs passed b)
          walking_stops h c = ended (omega arith) (inr (absent-unlisted (store_in base check) (v ∷ take (suc passed) ws) nothing)) (rw nothing)
            where
              nothing : (store_in base check).look (v ∷ take (suc passed) ws) ≡ absent
              nothing = ap (λ (l : List ℕ). (store_in base check).look (v ∷ l)) (sym (append-nil (take (suc passed) ws))) ∙ past_node [] h ∙ look-down base check (suc passed) s p b x f (get_or ws passed 0) [] e ∙ rw c
