-- The outcome of the listing, by what meets it first. Assumes nothing.
use Rattle.std.specs.declared.option.Option.{Option}
use Rattle.std.specs.declared.result.Result.{Result}
use Rattle.std.specs.declared.result.Result.TheVariants.{Ok, Err}
use Rattle.std.specs.Result.{IsErrAnd}
use Rattle.backoff.specs.declared.Reason.{Reason}
use Rattle.backoff.specs.Refusal.{reason_number}
use Rattle.sentences.specs.declared.Counted.{Counted}
use Rattle.sentences.specs.Inner.{listing_of}
use mathlib.Core.Path.{◌≡◌, refl, sym, ap, ◌∙◌}
use mathlib.Core.Bool.{Bool, true, false, cond, ◌||◌}
use mathlib.Core.List.{List, ◌++◌}
use Prim.Native.Nat.{ℕ, ◌*◌, ◌^◌, ◌≤◌, ◌<◌}
use native.Mathlib.Omega.{arith}
use lib.Dec.{ltb}
use lib.ListN.{length, take, drop, replicate, length-replicate}
use lib.Seq.{length-take-le}
use lib.IntN.{ℤ, pos}
use borrow.Author.Tests.{eq-eqb, ne_eqb, lt-ltb, ltb-false}
use Rattle.backoff.specs.Limits.{usable_limit, sentence_limit, word_limit}
use Rattle.backoff.specs.Refusal.{array_head, broken_node, short_slice, listing_size}
use Rattle.backoff.specs.Run.{written}
use Rattle.backoff.specs.Runs.{flat}
use Rattle.backoff.specs.Store.{Store}
use Rattle.double_array.specs.DoubleArray.{is_array, store_in, opened}
use Rattle.double_array.proofs.DoubleArray.{opened_some, opened-none}
use Rattle.sentence_order.specs.Sentences.{passing, usable_words, sentences_of}
use Rattle.sentence_order.specs.declared.Usable.{Usable}
use Rattle.sentence_order.specs.Inner.{usable_child, AllUsable}
use Rattle.sentence_order.proofs.Passing.{passing-each}
use Rattle.sentence_order.proofs.Sentences.{length-sentences, length-flat}
use Rattle.sentence_order.proofs.UsableWords.{usable-words_are}
use Rattle.sentence_totals.specs.Inner.{AllWritten, OneRefused}
use Rattle.sentences.specs.Listing.{Outcome, size_refusal, refused_listing, full_listing, broken_listing, listed, usable_over, listing_outcome}

-- ---- the sentences, all of them or none

module _ (o : Option Store) (us : List ℕ) (k : ℕ) (words₀ : List ℕ) (totals₀ : List ℤ) (words : List ℕ) (totals : List ℤ) where
  abbrev ss : List (List ℕ)
  ss = sentences_of k us

  pub full_outcome : AllWritten o ss words₀ totals₀ words totals → (n : ℕ) → n ≡ length us ^ k → record { listing = record { number = 0; place = 0; sentences = n }; words = words; totals = totals } ≡ listed o ss words₀ totals₀
  unfolding listed full_listing
  full_outcome w n c =
      rw w.scored
      (λ i. record {
        listing = record { number = 0; place = 0; sentences = (c ∙ sym (length-sentences us k)) i };
        words = w.words_are i;
        totals = w.totals_are i;
      })

  pub clear_fits : OneRefused o ss words₀ totals₀ words totals → (length words ≡ length words₀) × (length totals ≡ length totals₀)
  clear_fits w = (w.words-past.long, w.totals-past.long)

  pub broken_outcome : OneRefused o ss words₀ totals₀ words totals → (items n : ℕ) → items ≡ k * length us ^ k → n ≡ length us ^ k → (words' : List ℕ) (totals' : List ℤ) → words' ≡ replicate items 0 ++ drop items words → totals' ≡ replicate n (pos 0) ++ drop n totals → record { listing = refused_listing broken_node; words = words'; totals = totals' } ≡ listed o ss words₀ totals₀
  unfolding listed broken_listing written
  broken_outcome w items n f c words' totals' p q =
      let g : items ≡ length (flat ss) = f ∙ sym (length-flat us k) in
      let h : n ≡ length ss = c ∙ sym (length-sentences us k) in
      rw w.refused
      (λ i. record {
        listing = refused_listing broken_node;
        words = (p ∙ ap (λ (m : ℕ). replicate m 0 ++ drop m words) g ∙ ap (λ (l : List ℕ). replicate (length (flat ss)) 0 ++ l) (w.words-past.past ∙ ap (λ (m : ℕ). drop m words₀) (sym (length-replicate {A = ℕ} (length (flat ss)) 0)))) i;
        totals = (q ∙ ap (λ (m : ℕ). replicate m (pos 0) ++ drop m totals) h ∙ ap (λ (l : List ℤ). replicate (length ss) (pos 0) ++ l) (w.totals-past.past ∙ ap (λ (m : ℕ). drop m totals₀) (sym (length-replicate (length ss) (pos 0))))) i;
      })

-- ---- the sizes

-- more than sixteen words
many : (k v words totals : ℕ) → usable_limit < v → size_refusal k v words totals ≡ listing_size
unfolding size_refusal
many k v words totals l = rw (lt-ltb usable_limit v l) (go (ltb k 1 || ltb sentence_limit k))
  where
    go : (b : Bool) → cond (b || true) listing_size (cond (ltb words (k * v ^ k) || ltb totals (v ^ k)) short_slice 0) ≡ listing_size
    go true = refl
    go false = refl

-- what is known where neither 22 nor 15 refuses
pub record Sized (k usable words totals : ℕ) : Type 0 where
  pub some : 1 ≤ k
  pub short : k ≤ sentence_limit
  pub few : usable ≤ usable_limit
  pub words_fit : k * usable ^ k ≤ words
  pub totals_fit : usable ^ k ≤ totals

pub sized : (k usable words totals : ℕ) → size_refusal k usable words totals ≡ 0 → Sized k usable words totals
unfolding size_refusal
sized k usable words totals = go (ltb k 1) (ltb sentence_limit k) (ltb usable_limit usable) (ltb words (k * usable ^ k)) (ltb totals (usable ^ k)) refl refl refl refl refl
  where
    go : (a b c d e : Bool) → ltb k 1 ≡ a → ltb sentence_limit k ≡ b → ltb usable_limit usable ≡ c → ltb words (k * usable ^ k) ≡ d → ltb totals (usable ^ k) ≡ e → cond ((a || b) || c) listing_size (cond (d || e) short_slice 0) ≡ 0 → Sized k usable words totals
    go true b c d e f g h i j z = absurd (omega arith)
    go false true c d e f g h i j z = absurd (omega arith)
    go false false true d e f g h i j z = absurd (omega arith)
    go false false false true e f g h i j z = absurd (omega arith)
    go false false false false true f g h i j z = absurd (omega arith)
    go false false false false false f g h i j z = record { some = ltb-false _ _ f; short = ltb-false _ _ g; few = ltb-false _ _ h; words_fit = ltb-false _ _ i; totals_fit = ltb-false _ _ j }

-- ---- the whole

module _ (base check : List ℤ) (k : ℕ) (words : List ℕ) (totals : List ℤ) where
  pub no-array : is_array base check ≡ false → record { listing = refused_listing array_head; words = words; totals = totals } ≡ listing_outcome (opened base check) k words totals
  unfolding listing_outcome
  no-array e = rw (opened-none base check e)

  module _ (array : is_array base check ≡ true) where
    usable_over_lem : usable_over (opened base check) ≡ passing (usable_child check) word_limit
    usable_over_lem = rw (opened_some base check array) (usable-words_are base check array)

    pub many_refused : usable_limit < length (passing (usable_child check) word_limit) → record { listing = refused_listing listing_size; words = words; totals = totals } ≡ listing_outcome (opened base check) k words totals
    unfolding listing_outcome
    many_refused l = rw (opened_some base check array, many k (length (usable_words (store_in base check))) (length words) (length totals) (omega (arith, l, ap length (usable-words_are base check array))))

    module _ (r : Usable) (holds : passing (usable_child check) word_limit ≡ take r.count r.words) where
      words-held : usable_over (opened base check) ≡ take r.count r.words
      words-held = usable_over_lem ∙ holds

      pub all-usable : AllUsable check (take r.count r.words)
      all-usable = rw (← holds) (λ j h. (passing-each (usable_child check) word_limit j h).passes)

      pub count_held : r.count ≡ length (usable_over (opened base check))
      count_held = sym (ap length words-held ∙ length-take-le r.count r.words (omega (arith, r.few, r.long)))

      module _ (number : ℕ) (is : number ≡ size_refusal k r.count (length words) (length totals)) where
        size_is : number ≡ size_refusal k (length (usable_words (store_in base check))) (length words) (length totals)
        size_is = is ∙ ap (λ (v : ℕ). size_refusal k v (length words) (length totals)) (sym (ap length (usable-words_are base check array ∙ holds) ∙ length-take-le r.count r.words (omega (arith, r.few, r.long))))

        pub refused_early : (number ≡ 0 → ⊥) → record { listing = refused_listing number; words = words; totals = totals } ≡ listing_outcome (opened base check) k words totals
        unfolding listing_outcome
        refused_early n = rw (opened_some base check array, sym size_is, ne_eqb number 0 n)

        pub sizes : number ≡ 0 → Sized k r.count (length words) (length totals)
        sizes z = sized k r.count (length words) (length totals) (sym is ∙ z)

        pub listed_late : (z : number ≡ 0) (x : Outcome) → x ≡ listed (opened base check) (sentences_of k (take r.count r.words)) words totals → x ≡ listing_outcome (opened base check) k words totals
        listed_late z x e = e ∙ ap (λ (us : List ℕ). listed (opened base check) (sentences_of k us) words totals) (sym words-held) ∙ late
          where
            late : listed (opened base check) (sentences_of k (usable_over (opened base check))) words totals ≡ listing_outcome (opened base check) k words totals
            late = unfold listing_outcome in rw (opened_some base check array, sym size_is, eq-eqb number 0 z)

-- ---- a refusal that is passed on

pub listing-refused : (r : Result Counted Reason) (x : Reason) → IsErrAnd r (λ y. y ≡ x) → listing_of r ≡ refused_listing (reason_number x)
listing-refused (Ok c) x h = absurd h
listing-refused (Err e) x h = rw h
