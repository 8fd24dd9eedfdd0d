-- The outcome of lookup over any lent arrays: 11, then 14, then 12, else found with p, b and left, or not found; and what each answer means. Assumes nothing.
use Rattle.std.specs.declared.option.Option.{Option}
use Rattle.std.specs.declared.option.Option.TheVariants.{Some, None}
use Rattle.std.specs.declared.result.Result.{Result}
use Rattle.std.specs.declared.result.Result.TheVariants.{Ok, Err}
use Rattle.std.specs.Prelude.{◌≡◌, ◌⊎◌, Bool, false, cond, ◌&&◌, List, [], ◌∷◌, reverse, ℕ, ◌≤◌, ◌<◌, leb, length, ℤ, pos}
use Rattle.backoff.specs.Limits.{order_limit}
use Rattle.backoff.specs.Refusal.{array_head, broken_node, word_count, reason_number}
use Rattle.backoff.specs.declared.Refusal.{Refusal}
use Rattle.backoff.specs.FirstMet.{Line, ◌when◌, FirstMet}
use Rattle.backoff.specs.Store.{Look, absent, broken, here, Store, model_in}
use Rattle.double_array.specs.DoubleArray.{is_array, order_in, store_in, opened}
use Rattle.lookup.specs.declared.Listed.{Listed}

-- The answer of a lookup: p, b, and "left", whether some row puts a further word in front of the one that was found.
pub data Lookup : Type 0 where
  Found : ℤ → ℤ → Bool → Lookup
  NotFound : Lookup
  Refused : ℕ → ℕ → Lookup

-- the same of what the code returns
abbrev pub lookup_answer : Result (Option Listed) (Refusal ℕ) → Lookup
lookup_answer (Ok (Some r)) = Found r.p r.b r.left
lookup_answer (Ok None) = NotFound
lookup_answer (Err refusal) = Refused (reason_number refusal.reason) refusal.place

abbrev pub lookup_of : Look → Lookup
lookup_of absent = NotFound
lookup_of broken = Refused broken_node 0
lookup_of (here r) = Found r.p r.b r.e

-- "lookup of 0 or above 5 words" is 14; "more than n words are simply not found, without a walk"; the words are given oldest first
abbrev pub lookup_in : Option Store → List ℕ → Lookup
lookup_in None ws = Refused array_head 0
lookup_in (Some S) ws =
    cond (leb 1 (length ws) && leb (length ws) order_limit)
    (cond (leb (length ws) S.order) (lookup_of (S.look (reverse ws))) NotFound)
    (Refused word_count 0)

unfoldable pub lookup_outcome : List ℤ → List ℤ → List ℕ → Lookup
lookup_outcome base check ws = lookup_in (opened base check) ws

-- what an answer says as the caller from C reads it: "A refused run returns .., a refused lookup two zeros"
abbrev pub lookup_number : Lookup → ℕ
lookup_number (Found p b left) = 0
lookup_number NotFound = 0
lookup_number (Refused n k) = n

abbrev pub lookup_place : Lookup → ℕ
lookup_place (Found p b left) = 0
lookup_place NotFound = 0
lookup_place (Refused n k) = k

abbrev pub found_of : Lookup → ℕ
found_of (Found p b left) = 1
found_of NotFound = 0
found_of (Refused n k) = 0

abbrev pub p_of : Lookup → ℤ
p_of (Found p b left) = p
p_of NotFound = pos 0
p_of (Refused n k) = pos 0

abbrev pub b_of : Lookup → ℤ
b_of (Found p b left) = b
b_of NotFound = pos 0
b_of (Refused n k) = pos 0

-- "Lookup gains this yes or no (no where nothing is found)"
abbrev pub left_of : Lookup → ℕ
left_of (Found p b left) = cond left 1 0
left_of NotFound = 0
left_of (Refused n k) = 0

-- ---- what an answer means, whatever the arrays are

-- "lookup 11, 14, 12": 14 for "0 or above 5 words", 12 where "a node on the walk has no sound marker"; more than n words have no walk
abbrev pub lookup_refusals : List ℤ → List ℤ → List ℕ → List Line
lookup_refusals base check ws =
    array_head when (is_array base check ≡ false)
    ∷ word_count when ((length ws < 1) ⊎ (order_limit < length ws))
    ∷ broken_node when ((length ws ≤ order_in check) × ((store_in base check).look (reverse ws) ≡ broken))
    ∷ []

-- The words are a row that the array holds, with exactly this p and b, and e as `left` says.
pub record IsRow (base check : List ℤ) (ws : List ℕ) (p b : ℤ) (left : ℕ) : Type 0 where
  pub short : length ws ≤ order_in check
  pub e : Bool
  pub f : Bool
  pub row : (model_in (store_in base check)).find (reverse ws) ≡ Some (record { p = p; b = b; e = e; f = f })
  pub left_is : left ≡ cond e 1 0

-- They are more than n, or no such row.
abbrev pub IsNoRow : List ℤ → List ℤ → List ℕ → Type 0
IsNoRow base check ws = (order_in check < length ws) ⊎ ((model_in (store_in base check)).find (reverse ws) ≡ None)

-- The numbers that were returned. Where nothing is found, and where the lookup is refused, `found` and what would be told of a row are 0.
pub record LookupMeans (base check : List ℤ) (ws : List ℕ) (number place found : ℕ) (p b : ℤ) (left : ℕ) : Type 0 where
  pub verdict : FirstMet (lookup_refusals base check ws) number place
  pub one_or_zero : (found ≡ 1) ⊎ (found ≡ 0)
  pub yes : found ≡ 1 → (number ≡ 0) × IsRow base check ws p b left
  pub no : found ≡ 0 → number ≡ 0 → IsNoRow base check ws
  pub zeros : found ≡ 0 → (p ≡ pos 0) × (b ≡ pos 0) × (left ≡ 0)
