-- A fragment as it crosses to C is the fragment again. Assumes nothing.
use mathlib.Core.Path.{◌≡◌, refl, ◌∙◌}
use mathlib.Core.List.{List, [], ◌∷◌, ◌++◌}
use Prim.Native.Nat.{ℕ, ◌≤◌}
use native.Mathlib.Omega.{arith}
use lib.ListN.{length, take, replicate, length-append, length-replicate}
use lib.Seq.{take-append-le, length-take-le}
use lib.IntN.{ℤ}
use Rattle.backoff.specs.State.{State}
use Rattle.backoff.proofs.NineNumbers.{length-nine}
use Rattle.carried_state.proofs.Carried.{numbers-state_from}
use Rattle.fragments.specs.Fragment.{Fragment, packed}
use Rattle.fragments.specs.Outcome.{four_places, kept_in, fragment_in, to_numbers}

-- as many words are kept as the fragment says
pub length-kept_in : (k : ℕ) (places : List ℕ) → length (kept_in k places) ≡ k
unfolding kept_in
length-kept_in k places = length-take-le k (places ++ replicate k 0) (omega (arith, length-append places (replicate k 0), length-replicate {A = ℕ} k 0))

-- they are in the places, where there are no more of them
pub kept_in-within : (k : ℕ) (places : List ℕ) → k ≤ length places → kept_in k places ≡ take k places
unfolding kept_in
kept_in-within k places h = take-append-le k places (replicate k 0) h

-- up to four words lie in the four places
kept-places : (ws : List ℕ) → length ws ≤ 4 → take (length ws) (four_places ws) ≡ ws
unfolding four_places
kept-places [] h = refl
kept-places (a ∷ []) h = refl
kept-places (a ∷ b ∷ []) h = refl
kept-places (a ∷ b ∷ c ∷ []) h = refl
kept-places (a ∷ b ∷ c ∷ d ∷ []) h = refl
kept-places (a ∷ b ∷ c ∷ d ∷ e ∷ ws) h = absurd (omega arith)

length-four_places : (ws : List ℕ) → length (four_places ws) ≡ 4
unfolding four_places
length-four_places ws = refl

crossed-back : (f : Fragment (List ℤ)) → length f.first ≤ 4 → length f.end ≡ 9 → fragment_in (to_numbers f) ≡ f
crossed-back f few long = λ i. record { total = f.total; first = words i; count = f.count; end = numbers-state_from f.end long i }
  where
    words : kept_in (length f.first) (four_places f.first) ≡ f.first
    words = kept_in-within (length f.first) (four_places f.first) (omega (arith, length-four_places f.first)) ∙ kept-places f.first few

pub packed-back : (f : Fragment State) → length f.first ≤ 4 → fragment_in (to_numbers (packed f)) ≡ packed f
packed-back f few = crossed-back (packed f) (unfold packed in few) (unfold packed in length-nine f.end)
