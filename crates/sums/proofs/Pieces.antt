-- Words that are scored piece by piece: what a piece and the words behind it come to, and the states between them. Assumes nothing.
use mathlib.Core.Path.{◌≡◌, refl, sym, ap, ap₂, ◌∙◌}
use mathlib.Core.Bool.{true}
use mathlib.Core.Logic.{◌⊎◌, inl, inr}
use mathlib.Core.List.{List, [], ◌∷◌, ◌++◌}
use Prim.Native.Nat.{ℕ, suc, ◌+◌, ◌-◌, ◌≤◌, ◌<◌}
use native.Mathlib.Omega.{arith}
use lib.ListN.{length, take, drop, length-drop, drop_of_length-le, take-append-drop}
use lib.Seq.{drop-drop, length-take-le}
use lib.IntN.{ℤ, pos, ◌+ℤ◌, +ℤ_idl, +ℤ_idr}
use mir.Syntax.{w64}
use mir.Val.{SFits}
use Rattle.integer.specs.Integer.{sum}
use Rattle.integer.proofs.Arithmetic.{zarith, add, abs}
use Rattle.integer.proofs.Sums.{sum_append}
use Rattle.backoff.specs.Limits.{order_limit, run_limit}
use Rattle.backoff.specs.Refusal.{broken_node}
use Rattle.backoff.specs.Words.{are_words}
use Rattle.backoff.specs.Model.{Model, in_probability, in_backoff, listed, probability, backoff, reach}
use Rattle.backoff.specs.State.{State as Carried}
use Rattle.backoff.specs.Run.{Run, Answer, accepted_run, run_points, run_bytes, run_end}
use Rattle.backoff.specs.NineNumbers.{nine, state_in, state_ok}
use Rattle.backoff.specs.Store.{Store, Step, scored, stuck, step, Ran, ran, refused_at, before, onward, model_in, run_over, broken_run, ran_answer}
use Rattle.backoff.proofs.NineNumbers.{state_ok_bounded, nine-state_in, run_end_ok, state_in-run_end, length-nine}
use Rattle.backoff.proofs.Sizes.{run_points-size}
use Rattle.backoff.proofs.Store.{model_ran, run_over_cases}
use Rattle.run_words.proofs.Sizes.{SmallTotal}
use Rattle.run_words.proofs.Running.{before_all, before-none}
use Rattle.sums.specs.Sums.{Summed, summed}

-- the same words, numbered from a further on
abbrev pub renumbered : ℕ → Ran → Ran
renumbered a (ran ps bs t) = ran ps bs t
renumbered a (refused_at k) = refused_at (a + k)

module _ (S : Store) where
  pub run_renumbered : (a : ℕ) (ws : List ℕ) (s : Carried) (k : ℕ) → run_over S ws s (a + k) ≡ renumbered a (run_over S ws s k)
  unfolding run_over
  run_renumbered a [] s k = refl
  run_renumbered a (w ∷ ws) s k = go (λ t. run_renumbered a ws t (suc k)) (step S s w)
    where
      later : (x : ℤ) (y : ℕ) (r : Ran) → before x y (renumbered a r) ≡ renumbered a (before x y r)
      later x y (ran ps bs t) = refl
      later x y (refused_at j) = refl

      go : ((t : Carried) → run_over S ws t (a + suc k) ≡ renumbered a (run_over S ws t (suc k))) → (x : Step) → onward (λ (t : Carried). run_over S ws t (suc (a + k))) (a + k) x ≡ renumbered a (onward (λ (t : Carried). run_over S ws t (suc k)) k x)
      go ih (scored x y t) =
          let n : suc (a + k) ≡ a + suc k = omega arith in
          ap (before x y) (ap (run_over S ws t) n ∙ ih t) ∙ later x y (run_over S ws t (suc k))
      go ih stuck = refl

  refused-within : (ws : List ℕ) (s : Carried) (k j : ℕ) → run_over S ws s k ≡ refused_at j → j < k + length ws
  unfolding run_over
  refused-within [] s k j e = let z : ◌≡◌ {A = ℕ} 0 1 = cc in absurd (omega arith)
  refused-within (w ∷ ws) s k j e = go (λ t q. refused-within ws t (suc k) j q) (step S s w) e
    where
      behind : (x : ℤ) (y : ℕ) (r : Ran) → before x y r ≡ refused_at j → r ≡ refused_at j
      behind x y (ran ps bs t) q = let z : ◌≡◌ {A = ℕ} 0 1 = cc in absurd (omega arith)
      behind x y (refused_at i) q = q

      go : ((t : Carried) → run_over S ws t (suc k) ≡ refused_at j → j < suc k + length ws) → (x : Step) → onward (λ (t : Carried). run_over S ws t (suc k)) k x ≡ refused_at j → j < k + suc (length ws)
      go ih (scored x y t) q = let h = ih t (behind x y (run_over S ws t (suc k)) q) in omega arith
      go ih stuck q = let h : k ≡ j = cc in omega arith

  -- words, and then what comes of others from the state that they leave
  abbrev pub followed_by : Ran → (Carried → Ran) → Ran
  followed_by (ran ps bs t) rest = before_all ps bs (rest t)
  followed_by (refused_at k) rest = refused_at k

  pub run_append : (us vs : List ℕ) (s : Carried) (k : ℕ) → run_over S (us ++ vs) s k ≡ followed_by (run_over S us s k) (λ (t : Carried). run_over S vs t (length us + k))
  unfolding run_over
  run_append [] vs s k = before-none (run_over S vs s k) ∙ ap (λ (m : ℕ). before_all [] [] (run_over S vs s m)) (omega arith)
  run_append (u ∷ us) vs s k = go (λ t. run_append us vs t (suc k)) (step S s u)
    where
      first : (x : ℤ) (y : ℕ) (ps : List ℤ) (bs : List ℕ) (r : Ran) → before x y (before_all ps bs r) ≡ before_all (x ∷ ps) (y ∷ bs) r
      first x y ps bs (ran qs cs t) = refl
      first x y ps bs (refused_at j) = refl

      both : (x : ℤ) (y : ℕ) (r : Ran) (rest : Carried → Ran) → before x y (followed_by r rest) ≡ followed_by (before x y r) rest
      both x y (ran ps bs t) rest = first x y ps bs (rest t)
      both x y (refused_at j) rest = refl

      go : ((t : Carried) → run_over S (us ++ vs) t (suc k) ≡ followed_by (run_over S us t (suc k)) (λ (q : Carried). run_over S vs q (length us + suc k))) → (x : Step) → onward (λ (t : Carried). run_over S (us ++ vs) t (suc k)) k x ≡ followed_by (onward (λ (t : Carried). run_over S us t (suc k)) k x) (λ (t : Carried). run_over S vs t (suc (length us) + k))
      go ih (scored x y t) =
          let n : length us + suc k ≡ suc (length us) + k = omega arith in
          ap (before x y) (ih t ∙ ap (λ (m : ℕ). followed_by (run_over S us t (suc k)) (λ (q : Carried). run_over S vs q m)) n)
          ∙ both x y (run_over S us t (suc k)) (λ (q : Carried). run_over S vs q (suc (length us) + k))
      go ih stuck = refl

-- what words come to, with the total of those before them; l are the numbers of the first state
abbrev sum_on : ℤ → List ℤ → Ran → Summed
sum_on total l (ran ps bs s) = record { number = 0; place = 0; total = total +ℤ sum ps; end = nine s }
sum_on total l (refused_at k) = record { number = broken_node; place = k; total = pos 0; end = l }

sum-all : (l : List ℤ) (r : Ran) → summed l r ≡ sum_on (pos 0) l r
sum-all l (ran ps bs t) = ap (λ (z : ℤ). record { number = 0; place = 0; total = z; end = nine t }) (sym (+ℤ_idl (sum ps)))
sum-all l (refused_at k) = refl

sum_more : (total : ℤ) (l : List ℤ) (ps : List ℤ) (bs : List ℕ) (r : Ran) → sum_on total l (before_all ps bs r) ≡ sum_on (total +ℤ sum ps) l r
sum_more total l ps bs (ran qs cs t) = ap (λ (z : ℤ). record { number = 0; place = 0; total = z; end = nine t }) (omega (zarith, sum_append ps qs, add total (sum (ps ++ qs)), add (sum ps) (sum qs), add total (sum ps), add (total +ℤ sum ps) (sum qs)))
sum_more total l ps bs (refused_at k) = refl

-- ---- the loop

-- the words before the a-th are scored: `end` and `total` are what they leave, l the numbers of the first state
pub record Pieced (S : Store) (l : List ℤ) (ws : List ℕ) (end : List ℤ) (total : ℤ) (a : ℕ) : Type 0 where
  pub at : a ≤ length ws
  pub nine-long : length end ≡ 9
  pub ok : state_ok S.order end ≡ true
  pub rest : summed l (run_over S ws (state_in l) 1) ≡ sum_on total l (run_over S (drop a ws) (state_in end) (a + 1))
  pub small : SmallTotal a total

-- what the answer x to the run of the next piece, up to the e-th word, says of all the words
pub record PieceTold (S : Store) (l : List ℤ) (ws : List ℕ) (total : ℤ) (a e : ℕ) (x : Answer (List ℤ)) : Type 0 where
  pub refused : (x.number ≡ 0 → ⊥) → summed l (run_over S ws (state_in l) 1) ≡ record { number = x.number; place = a + x.place; total = pos 0; end = l }
  pub place : (x.number ≡ 0 → ⊥) → x.place ≤ e - a
  pub small : x.number ≡ 0 → SmallTotal (e - a) x.total
  pub on : x.number ≡ 0 → Pieced S l ws x.end (total +ℤ x.total) e

module _ (S : Store) (l : List ℤ) (ws : List ℕ) where
  pub pieced_begins : length l ≡ 9 → state_ok S.order l ≡ true → Pieced S l ws l (pos 0) 0
  pieced_begins n ok = record { at = omega arith; nine-long = n; ok = ok; rest = sum-all l (run_over S ws (state_in l) 1); small = omega arith }

  pub pieced_ends : S.order ≤ order_limit → (end : List ℤ) (total : ℤ) (a : ℕ) → Pieced S l ws end total a → length ws ≤ a → summed l (run_over S ws (state_in l) 1) ≡ record { number = 0; place = 0; total = total; end = end }
  unfolding run_over
  pieced_ends high end total a p h = p.rest ∙ rw (drop_of_length-le ws h) (ap₂ (λ (z : ℤ) (e : List ℤ). record { number = 0; place = 0; total = z; end = e }) (+ℤ_idr total) (nine-state_in S.order end p.nine-long high p.ok))

  module _ (in_probability_lem : (k : List ℕ) → in_probability (probability (model_in S) k) ≡ true) (in_backoff_lem : (k : List ℕ) → in_backoff (backoff (model_in S) k) ≡ true) (in_words_lem : (k : List ℕ) → listed (model_in S) k ≡ true → are_words k ≡ true) (high : S.order ≤ order_limit) (end : List ℤ) (total : ℤ) (a : ℕ) (p : Pieced S l ws end total a) where
    -- the next piece, up to the e-th word
    module _ (e : ℕ) (above : a ≤ e) (within : e ≤ length ws) where
      abbrev piece : List ℕ
      piece = take (e - a) (drop a ws)

      length-piece : length piece ≡ e - a
      length-piece = length-take-le (e - a) (drop a ws) (omega (arith, length-drop a ws))

      parted : drop a ws ≡ piece ++ drop e ws
      parted =
          let n : a + (e - a) ≡ e = omega arith in
          sym (take-append-drop (e - a) (drop a ws)) ∙ ap (λ (v : List ℕ). piece ++ v) (drop-drop (e - a) a ws ∙ ap (λ (k : ℕ). drop k ws) n)

      piece-first : run_over S (drop a ws) (state_in end) (a + 1) ≡ followed_by S (renumbered a (run_over S piece (state_in end) 1)) (λ (t : Carried). run_over S (drop e ws) t (e + 1))
      piece-first =
          let n : length piece + (a + 1) ≡ e + 1 = omega (arith, length-piece) in
          ap (λ (v : List ℕ). run_over S v (state_in end) (a + 1)) parted
          ∙ run_append S piece (drop e ws) (state_in end) (a + 1)
          ∙ ap₂ (λ (r : Ran) (k : ℕ). followed_by S r (λ (t : Carried). run_over S (drop e ws) t k)) (run_renumbered S a piece (state_in end) 1) n

      -- by what the run of the piece answered
      module _ (r : Run) (x : Answer (List ℤ)) (answer : x ≡ ran_answer end r (run_over S piece (state_in end) 1)) where
        -- a piece that is refused
        refused-at : (x.number ≡ 0 → ⊥) → (j : ℕ) × (run_over S piece (state_in end) 1 ≡ refused_at j)
        refused-at n = go (run_over S piece (state_in end) 1) refl
          where
            go : (y : Ran) → run_over S piece (state_in end) 1 ≡ y → (j : ℕ) × (run_over S piece (state_in end) 1 ≡ refused_at j)
            go (ran ps bs t) q = absurd (n (ap (λ (z : Answer (List ℤ)). z.number) (answer ∙ ap (ran_answer end r) q) ∙ (unfold accepted_run in refl)))
            go (refused_at j) q = (j, q)

        broken-is : (j : ℕ) → run_over S piece (state_in end) 1 ≡ refused_at j → x ≡ broken_run j end r
        broken-is j q = answer ∙ ap (ran_answer end r) q

        -- one that is not
        model-ran : x.number ≡ 0 → run_over S piece (state_in end) 1 ≡ model_ran (model_in S) (state_in end) piece
        model-ran n = go (run_over_cases S piece (state_in end) 1)
          where
            go : ((j : ℕ) × (run_over S piece (state_in end) 1 ≡ refused_at j)) ⊎ (run_over S piece (state_in end) 1 ≡ model_ran (model_in S) (state_in end) piece) → run_over S piece (state_in end) 1 ≡ model_ran (model_in S) (state_in end) piece
            go (inl (j, q)) =
                let z : broken_node ≡ 0 = sym (ap (λ (y : Answer (List ℤ)). y.number) (broken-is j q) ∙ (unfold broken_run in refl)) ∙ n in
                absurd (omega arith)
            go (inr q) = q

        -- so the piece is scored as over the model
        module _ (n : x.number ≡ 0) where
          abbrev M : Model
          M = model_in S

          abbrev left : Carried
          left = run_end M (state_in end) piece

          is-scored : x ≡ ran_answer end r (model_ran M (state_in end) piece)
          is-scored = answer ∙ ap (ran_answer end r) (model-ran n)

          total-is : x.total ≡ sum (run_points M (state_in end) piece)
          unfolding accepted_run
          total-is = ap (λ (y : Answer (List ℤ)). y.total) is-scored

          end_is : x.end ≡ nine left
          unfolding accepted_run
          end_is = ap (λ (y : Answer (List ℤ)). y.end) is-scored

          passes : state_ok S.order (nine left) ≡ true
          unfolding model_in
          passes = run_end_ok M in_backoff_lem in_words_lem high end p.nine-long p.ok piece

          comes_back : state_in (nine left) ≡ left
          unfolding model_in
          comes_back = state_in-run_end M in_backoff_lem in_words_lem high end p.nine-long p.ok piece

          piece_small : SmallTotal (e - a) x.total
          piece_small = rw total-is (omega (arith, size, length-piece))
            where
              size : SmallTotal (length piece) (sum (run_points M (state_in end) piece))
              size = run_points-size M in_probability_lem in_backoff_lem order_limit (unfold model_in reach in omega arith) piece (state_in end) (unfold model_in reach in state_ok_bounded S.order end p.nine-long high p.ok)

          on : sum_on total l (run_over S (drop a ws) (state_in end) (a + 1)) ≡ sum_on (total +ℤ sum (run_points M (state_in end) piece)) l (run_over S (drop e ws) left (e + 1))
          on =
              ap (sum_on total l) (piece-first ∙ ap (λ (y : Ran). followed_by S (renumbered a y) (λ (t : Carried). run_over S (drop e ws) t (e + 1))) (model-ran n))
              ∙ sum_more total l (run_points M (state_in end) piece) (run_bytes M (state_in end) piece) (run_over S (drop e ws) left (e + 1))

          pieced_on : Pieced S l ws x.end (total +ℤ x.total) e
          pieced_on = record {
            at = within;
            nine-long = ap length end_is ∙ length-nine left;
            ok = ap (state_ok S.order) end_is ∙ passes;
            rest = p.rest ∙ on ∙ ap₂ (λ (z : ℤ) (t : Carried). sum_on (total +ℤ z) l (run_over S (drop e ws) t (e + 1))) (sym total-is) (sym (ap state_in end_is ∙ comes_back));
            small = omega (arith, add total x.total, abs total, abs x.total, abs (total +ℤ x.total), p.small, piece_small);
          }

        pub piece_told : PieceTold S l ws total a e x
        piece_told = record {
          refused = λ n.
              let (j, q) = refused-at n in
              p.rest
              ∙ ap (sum_on total l) (piece-first ∙ ap (λ (y : Ran). followed_by S (renumbered a y) (λ (t : Carried). run_over S (drop e ws) t (e + 1))) q)
              ∙ sym (ap {B = Summed} (λ (z : Answer (List ℤ)). record { number = z.number; place = a + z.place; total = pos 0; end = l }) (broken-is j q) ∙ (unfold broken_run in refl));
          place = λ n.
              let (j, q) = refused-at n in
              let f : x.place ≡ j = ap (λ (z : Answer (List ℤ)). z.place) (broken-is j q) ∙ (unfold broken_run in refl) in
              omega (arith, refused-within S piece (state_in end) 1 j q, length-piece);
          small = piece_small;
          on = pieced_on;
        }

-- the total of a piece is added to that of the words before it
pub piece-fits : (total x : ℤ) {a e n : ℕ} → SmallTotal a total → SmallTotal (e - a) x → a ≤ e → e ≤ n → n ≤ run_limit → SFits w64 (total +ℤ x)
piece-fits total x h k l m o = omega (zarith, abs total, abs x)
