-- What the outcome of the listing means. Assumes nothing.
use Rattle.std.specs.declared.option.Option.{Option}
use Rattle.std.specs.declared.option.Option.TheVariants.{Some}
use mathlib.Core.Path.{◌≡◌, refl, sym, ap, ◌∙◌}
use mathlib.Core.Logic.{◌⊎◌, inl, inr}
use mathlib.Core.Bool.{Bool, true, false, cond, ◌||◌, true≢false}
use mathlib.Core.List.{List, [], ◌∷◌, ◌++◌, map, append_assoc}
use Prim.Native.Nat.{ℕ, zero, suc, ◌+◌, ◌*◌, ◌^◌, ◌≤◌, ◌<◌}
use native.Mathlib.Omega.{arith}
use lib.Dec.{eqb, ltb}
use lib.ListN.{length, take, drop, get_or, length-map, length-append, get_or-append}
use lib.Seq.{take_at, drop_at, drop-append-add}
use lib.IntN.{ℤ, pos}
use borrow.Author.Tests.{eqb-true, eqb-false, le-ltb, ltb-true, ltb-false}
use Rattle.integer.proofs.Ranges.{and_left, and_right}
use Rattle.backoff.specs.Limits.{usable_limit, sentence_limit, run_limit, start_word, end_word}
use Rattle.backoff.specs.Refusal.{array_head, broken_node, short_slice, listing_size}
use Rattle.backoff.specs.FirstMet.{Line, FirstMet}
use Rattle.backoff.specs.State.{empty, start}
use Rattle.backoff.specs.NineNumbers.{all}
use Rattle.backoff.specs.Run.{refusal, run_end, written}
use Rattle.backoff.specs.Runs.{flat}
use Rattle.backoff.specs.Store.{Store, model_in}
use Rattle.backoff.proofs.FirstMet.{met_when, not_when, not-false}
use Rattle.double_array.specs.DoubleArray.{is_array, store_in, opened}
use Rattle.double_array.proofs.DoubleArray.{opened_some, opened-none}
use Rattle.score.specs.Answers.{started_over}
use Rattle.score.specs.Meaning.{Unwalkable, StuckWords, StuckSentence}
use Rattle.score.proofs.Sentence.{Twelve, not-met, met, start_twelve, start-state, run_twelve}
use Rattle.sentence_order.specs.Sentences.{usable_words}
use Rattle.sentence_order.specs.ListsAll.{IsSentence}
use Rattle.sentence_order.proofs.Sentences.{get_or-map_in, length-sentences, each_long, length-flat}
use Rattle.sentence_order.proofs.ListsAll.{listed_exactly_once}
use Rattle.sentence_totals.specs.Totals.{closed, own_run, run_from_start, runs_through, sentence_total, is_scored, all_scored}
use Rattle.sentences.specs.Listing.{size_refusal, refused_listing, full_listing, broken_listing, listed, sentences_over, listing_outcome}
use Rattle.sentences.specs.Meaning.{Listed, listing_refusals, ListingMeans}
use Rattle.sentences.proofs.Outcome.{Sized, sized}

-- ---- lists

all_passes : {A : Type 0} (P : A → Bool) (d : A) (l : List A) → all (map P l) ≡ true → (i : ℕ) → i < length l → P (get_or l i d) ≡ true
unfolding all
all_passes P d [] e i h = absurd (omega arith)
all_passes P d (x ∷ l) e zero h = and_left (P x) _ e
all_passes P d (x ∷ l) e (suc i) h = all_passes P d l (and_right (P x) _ e) i (omega arith)

one_fails : {A : Type 0} (P : A → Bool) (d : A) (l : List A) → all (map P l) ≡ false → (i : ℕ) × ((i < length l) × (P (get_or l i d) ≡ false))
unfolding all
one_fails P d [] e = absurd (true≢false e)
one_fails P d (x ∷ l) e = go (P x) refl (one_fails P d l)
  where
    go : (b : Bool) → P x ≡ b → (all (map P l) ≡ false → (i : ℕ) × ((i < length l) × (P (get_or l i d) ≡ false))) → (i : ℕ) × ((i < length (x ∷ l)) × (P (get_or (x ∷ l) i d) ≡ false))
    go false q f = (0, (omega arith, q))
    go true q f = let r = f (rw q at e) in (suc r.0, (omega (arith, r.1.0), r.1.1))

-- the i-th of lists of k items each, in all of them together
part_of : (k : ℕ) (xs : List (List ℕ)) → ((i : ℕ) → i < length xs → length (get_or xs i []) ≡ k) → (rest : List ℕ) (i : ℕ) → i < length xs → take k (drop (k * i) (flat xs ++ rest)) ≡ get_or xs i []
unfolding flat
part_of k [] f rest i h = absurd (omega arith)
part_of k (x ∷ xs) f rest zero h = rw (nothing, append_assoc x (flat xs) rest) (take_at x (flat xs ++ rest) k (f 0 (omega arith)))
  where
    nothing : k * 0 ≡ 0
    nothing = omega arith
part_of k (x ∷ xs) f rest (suc i) h = rw (more, append_assoc x (flat xs) rest, drop-append-add x (flat xs ++ rest) (k * i)) (part_of k xs (λ j l. f (suc j) (omega arith)) rest i (omega arith))
  where
    more : k * suc i ≡ length x + k * i
    more = omega (arith, f 0 (omega arith))

-- ---- an accepted listing

module _ (S : Store) (k : ℕ) (words : List ℕ) (totals : List ℤ) (scored : all_scored (Some S) (sentences_over (Some S) k) ≡ true) where
  abbrev ss : List (List ℕ)
  ss = sentences_over (Some S) k

  full_means : Listed S k words totals (full_listing (Some S) ss words totals)
  unfolding full_listing written
  full_means = record {
    lists_all = listed_exactly_once S k;
    sentences = refl;
    count = length-sentences (usable_words S) k;
    words_of = λ i h. part_of k ss (each_long (usable_words S) k) _ i h;
    scored = λ i h. unfold all_scored in all_passes (is_scored (Some S)) [] ss scored i h;
    total_of = λ i h. get_or-append (map (sentence_total (Some S)) ss) _ (pos 0) i (omega (arith, length-map ss (sentence_total (Some S)))) ∙ get_or-map_in (sentence_total (Some S)) ss i [] (pos 0) h;
    words-past = rw (items, drop_at (flat ss) _ (length (flat ss)) refl);
    totals-past = rw (sym (length-map ss (sentence_total (Some S))), drop_at (map (sentence_total (Some S)) ss) _ (length (map (sentence_total (Some S)) ss)) refl);
  }
    where
      items : k * length ss ≡ length (flat ss)
      items = ap (λ (n : ℕ). k * n) (length-sentences (usable_words S) k) ∙ sym (length-flat (usable_words S) k)

-- ---- a sentence, by what 12 says

-- scored, or refused where its walks meet 12
data Judged (base check : List ℤ) (s : List ℕ) : Type 0 where
  scored : is_scored (opened base check) s ≡ true → (StuckSentence (store_in base check) s → ⊥) → Judged base check s
  unscored : is_scored (opened base check) s ≡ false → StuckSentence (store_in base check) s → Judged base check s

module _ (base check : List ℤ) (array : is_array base check ≡ true) (s : List ℕ) (short : length s ≤ sentence_limit) where
  abbrev T : Store
  T = store_in base check

  fits : refusal (own_run (closed s)) ≡ 0
  unfolding refusal
  fits = let n = length-append s (end_word ∷ []) in rw (le-ltb run_limit (length (closed s)) (omega arith), le-ltb 5 (length (closed s)) (omega arith))

  ran_twelve : (started_over (opened base check)).number ≡ 0 → Twelve (StuckWords T (start (model_in T)) (closed s)) (run_from_start (opened base check) (closed s)).number
  unfolding run_from_start run_end
  ran_twelve z = rw (start-state base check array z) (run_twelve base check array [] (own_run (closed s)) fits)

  judged : Judged base check s
  unfolding is_scored runs_through
  judged = first (start_twelve base check array)
    where
      none : (Unwalkable T empty start_word → ⊥) → (StuckWords T (start (model_in T)) (closed s) → ⊥) → StuckSentence T s → ⊥
      none m n (inl u) = m u
      none m n (inr t) = n t

      second : (started_over (opened base check)).number ≡ 0 → (Unwalkable T empty start_word → ⊥) → Twelve (StuckWords T (start (model_in T)) (closed s)) (run_from_start (opened base check) (closed s)).number → Judged base check s
      second x m (not-met y n) = scored (rw (x, y)) (none m n)
      second x m (met y t) = unscored (rw (x, y)) (inr t)

      first : Twelve (Unwalkable T empty start_word) (started_over (opened base check)).number → Judged base check s
      first (not-met x m) = second x m (ran_twelve x)
      first (met x u) = unscored (rw x) (inl u)

-- ---- every outcome

module _ (base check : List ℤ) (k : ℕ) (words : List ℕ) (totals : List ℤ) where
  abbrev o : Option Store
  o = opened base check

  abbrev S : Store
  S = store_in base check

  abbrev us : List ℕ
  us = usable_words S

  abbrev sentences : List (List ℕ)
  sentences = sentences_over (Some S) k

  abbrev number : ℕ
  number = size_refusal k (length us) (length words) (length totals)

  abbrev lines : List Line
  lines = listing_refusals base check k words totals

  -- refused early
  early_means : (number : ℕ) → (number ≡ 0 → ⊥) → (number ≡ broken_node → ⊥) → FirstMet lines number 0 → ListingMeans base check k words totals (record { listing = refused_listing number; words = words; totals = totals })
  early_means number n m v = record {
    verdict = v;
    place = refl;
    accepted = λ z. absurd (n z);
    refused = λ z. refl;
    untouched = λ z y. (refl, refl);
    broken = λ z. absurd (m z);
  }

  module _ (array : is_array base check ≡ true) where
    -- 22 or 15
    sizes-met : (number ≡ 0 → ⊥) → FirstMet lines number 0
    unfolding size_refusal
    sizes-met n = go (ltb k 1) refl (ltb sentence_limit k) refl (ltb usable_limit (length us)) refl (ltb (length words) (k * length us ^ k)) refl (ltb (length totals) (length us ^ k)) refl n
      where
        few : ltb k 1 ≡ false → ltb sentence_limit k ≡ false → ltb usable_limit (length us) ≡ false → (k < 1) ⊎ ((sentence_limit < k) ⊎ (usable_limit < length us)) → ⊥
        few p q r (inl h) = let w = ltb-false k 1 p in omega arith
        few p q r (inr (inl h)) = let w = ltb-false sentence_limit k q in omega arith
        few p q r (inr (inr h)) = let w = ltb-false usable_limit (length us) r in omega arith

        go : (a : Bool) → ltb k 1 ≡ a → (b : Bool) → ltb sentence_limit k ≡ b → (c : Bool) → ltb usable_limit (length us) ≡ c → (d : Bool) → ltb (length words) (k * length us ^ k) ≡ d → (e : Bool) → ltb (length totals) (length us ^ k) ≡ e → (cond ((a || b) || c) listing_size (cond (d || e) short_slice 0) ≡ 0 → ⊥) → FirstMet lines (cond ((a || b) || c) listing_size (cond (d || e) short_slice 0)) 0
        go true p b q c r d x e y n = inr (not-false array, inl (met_when (inl (ltb-true _ _ p))))
        go false p true q c r d x e y n = inr (not-false array, inl (met_when (inr (inl (ltb-true _ _ q)))))
        go false p false q true r d x e y n = inr (not-false array, inl (met_when (inr (inr (ltb-true _ _ r)))))
        go false p false q false r true x e y n = inr (not-false array, inr (not_when (few p q r), inl (met_when (inl (ltb-true _ _ x)))))
        go false p false q false r false x true y n = inr (not-false array, inr (not_when (few p q r), inl (met_when (inr (ltb-true _ _ y)))))
        go false p false q false r false x false y n = absurd (n refl)

    module _ (z : number ≡ 0) where
      sizes : Sized k (length us) (length words) (length totals)
      sizes = sized k (length us) (length words) (length totals) z

      past-sizes : (n p : ℕ) → FirstMet (drop 3 lines) n p → FirstMet lines n p
      past-sizes n p v = inr (not-false array, inr (not_when few, inr (not_when short, v)))
        where
          few : (k < 1) ⊎ ((sentence_limit < k) ⊎ (usable_limit < length us)) → ⊥
          few (inl h) = let w = sizes.some in omega arith
          few (inr (inl h)) = let w = sizes.short in omega arith
          few (inr (inr h)) = let w = sizes.few in omega arith

          short : (length words < k * length us ^ k) ⊎ (length totals < length us ^ k) → ⊥
          short (inl h) = let w = sizes.words_fit in omega arith
          short (inr h) = let w = sizes.totals_fit in omega arith

      judge : (s : List ℕ) → IsSentence S k s → Judged base check s
      judge s f = judged base check array s (omega (arith, f.size, sizes.short))

      -- a sentence that is not scored meets 12
      stuck : (s : List ℕ) → IsSentence S k s → is_scored o s ≡ false → StuckSentence S s
      stuck s f e = go (judge s f)
        where
          go : Judged base check s → StuckSentence S s
          go (scored q n) = absurd (true≢false (sym q ∙ e))
          go (unscored q t) = t

      -- and one that is does not
      not_stuck : (s : List ℕ) → IsSentence S k s → is_scored o s ≡ true → StuckSentence S s → ⊥
      not_stuck s f e = go (judge s f)
        where
          go : Judged base check s → StuckSentence S s → ⊥
          go (scored q n) = n
          go (unscored q t) = absurd (true≢false (sym e ∙ q))

      module _ (opens : o ≡ Some S) where
        -- the first that is not scored
        unscored_one : all_scored o sentences ≡ false → (i : ℕ) × ((i < length sentences) × (is_scored o (get_or sentences i []) ≡ false))
        unfolding all_scored
        unscored_one = one_fails (is_scored o) [] sentences

        broken_means : all_scored o sentences ≡ false → ListingMeans base check k words totals (broken_listing sentences words totals)
        unfolding broken_listing
        broken_means e =
            let f = unscored_one e in
            let s = get_or sentences f.0 [] in
            let is = (listed_exactly_once S k).sentences f.0 f.1.0 in
            record {
              verdict = past-sizes broken_node 0 (inl (met_when (s, is, stuck s is f.1.1)));
              place = refl;
              accepted = λ z. absurd (omega arith);
              refused = λ z. refl;
              untouched = λ z y. absurd (y refl);
              broken = λ z. rw opens (rw opens at f);
            }

        none-met : all_scored o sentences ≡ true → FirstMet lines 0 0
        none-met e = past-sizes 0 0 (inr (not_when none, (refl, refl)))
          where
            none : (s : List ℕ) × IsSentence S k s × StuckSentence S s → ⊥
            none (s, f, t) =
                let i = (listed_exactly_once S k).every s f in
                not_stuck s f (ap (is_scored o) (sym i.1.1) ∙ (unfold all_scored in all_passes (is_scored o) [] sentences e i.0 i.1.0)) t

        full-listing : all_scored o sentences ≡ true → ListingMeans base check k words totals (full_listing (Some S) sentences words totals)
        full-listing e = record {
          verdict = unfold full_listing in none-met e;
          place = unfold full_listing in refl;
          accepted = λ z. (S, (opens, full_means S k words totals (rw opens at e)));
          refused = λ n. absurd (n (unfold full_listing in refl));
          untouched = λ n y. absurd (n (unfold full_listing in refl));
          broken = λ z. absurd (unfold full_listing in omega arith);
        }

  -- 22 or 15, or none
  size-numbers : (usable : ℕ) → size_refusal k usable (length words) (length totals) ≡ broken_node → ⊥
  unfolding size_refusal
  size-numbers usable = go ((ltb k 1 || ltb sentence_limit k) || ltb usable_limit usable) (ltb (length words) (k * usable ^ k) || ltb (length totals) (usable ^ k))
    where
      go : (a b : Bool) → cond a listing_size (cond b short_slice 0) ≡ broken_node → ⊥
      go true b z = omega arith
      go false true z = omega arith
      go false false z = omega arith

  pub listing_means : ListingMeans base check k words totals (listing_outcome o k words totals)
  listing_means = go (is_array base check) refl
    where
      opened_means : (array : is_array base check ≡ true) (a : Bool) → eqb number 0 ≡ a → (b : Bool) → all_scored (Some S) sentences ≡ b → ListingMeans base check k words totals (cond a (cond b (full_listing (Some S) sentences words totals) (broken_listing sentences words totals)) (record { listing = refused_listing number; words = words; totals = totals }))
      opened_means array false e b f = let n = eqb-false number 0 e in early_means number n (size-numbers (length us)) (sizes-met array n)
      opened_means array true e false f = let p = opened_some base check array in broken_means array (eqb-true _ _ e) p (rw p f)
      opened_means array true e true f = let p = opened_some base check array in full-listing array (eqb-true _ _ e) p (rw p f)

      go : (t : Bool) → is_array base check ≡ t → ListingMeans base check k words totals (listing_outcome o k words totals)
      go false q = unfold listing_outcome in rw (opened-none base check q) (early_means array_head (λ z. omega arith) (λ z. omega arith) (inl (met_when q)))
      go true q = unfold listing_outcome listed in rw (opened_some base check q) (opened_means q (eqb number 0) refl (all_scored (Some S) sentences) refl)
