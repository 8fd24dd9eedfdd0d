-- The listing group by group: the sentences of a group begin with the same words, and the last of them is each usable word in turn. Assumes nothing.
use Rattle.std.specs.declared.option.Option.{Option}
use mathlib.Core.Path.{◌≡◌, sym, ap, ◌∙◌, subst}
use mathlib.Core.Bool.{true, false}
use mathlib.Core.List.{List, [], ◌∷◌, ◌++◌, map, append_assoc}
use Prim.Native.Nat.{ℕ, zero, suc, ◌+◌, ◌*◌, ◌-◌, ◌^◌, ◌≤◌, ◌<◌}
use native.Mathlib.Nat.{pow-suc, one-le-pow, mul-add, mul-le-mul_left, mul-le-mul_right}
use native.Mathlib.Numerals.{add-one}
use native.Mathlib.Omega.{arith}
use lib.ListN.{length, take, drop, get_or, set, length-append, length-map, take-append-drop, drop_of_length-le}
use lib.Seq.{take-suc, take_all, take_at, drop-cons, length-take-le}
use lib.IntN.{ℤ}
use borrow.Rule.Slice.PartMut.{mid_of, put_mid}
use Rattle.backoff.specs.Runs.{flat}
use Rattle.backoff.specs.Store.{Store}
use Rattle.backoff.proofs.Runs.{flat_append}
use Rattle.sentence_order.specs.Sentences.{ended_by, sentences_of}
use Rattle.sentence_order.specs.Inner.{sentence_at}
use Rattle.sentence_order.proofs.Sentences.{flat-take-suc, length-flat-take, get_or-map_in, length-sentences, sentence_nth, each_long}
use Rattle.sentence_totals.specs.Totals.{sentence_total, is_scored, all_scored}
use Rattle.sentence_totals.specs.Inner.{AllWritten, OneRefused}
use Rattle.sentence_totals.proofs.Written.{rest-lent, rest_back, one_unscored, some_unscored, written_none, written-more, written_one, words_long, totals-long, refused-here, refused_there}

-- ---- the words p, ended by each of the words us

module _ (us p : List ℕ) (k : ℕ) (long : length p + 1 ≡ k) where
  group_nth : (j : ℕ) → j < length us → get_or (ended_by us p) j [] ≡ p ++ (get_or us j 0 ∷ [])
  group_nth j h = get_or-map_in (λ (u : ℕ). p ++ (u ∷ [])) us j 0 [] h

  group-long : length (ended_by us p) ≡ length us
  group-long = length-map us _

  ended-long : (u : ℕ) → length (p ++ (u ∷ [])) ≡ k
  ended-long u = length-append p (u ∷ []) ∙ long

  group-each : (j : ℕ) → j < length (ended_by us p) → length (get_or (ended_by us p) j []) ≡ k
  group-each j h = ap length (group_nth j (omega (arith, group-long))) ∙ ended-long (get_or us j 0)

module _ (o : Option Store) (us p : List ℕ) (k : ℕ) (long : length p + 1 ≡ k) (words₀ : List ℕ) (totals₀ : List ℤ) (words_fit : k * length us ≤ length words₀) (totals_fit : length us ≤ length totals₀) where
  abbrev group : List (List ℕ)
  group = ended_by us p

  -- the first j are written
  module _ (j : ℕ) (within : j ≤ length us) (words : List ℕ) (totals : List ℤ) (f : AllWritten o (take j group) words₀ totals₀ words totals) where
    items : length (flat (take j group)) ≡ k * j
    items = length-flat-take k group (group-each us p k long) j (omega (arith, group-long us p k long))

    sentences : length (take j group) ≡ j
    sentences = length-take-le j group (omega (arith, group-long us p k long))

    items_fit : length (flat (take j group)) ≤ length words₀
    items_fit = omega (arith, items, mul-le-mul_left k within)

    pub group-words-long : length words ≡ length words₀
    group-words-long = words_long o words₀ totals₀ (take j group) words totals f items_fit (omega (arith, sentences))

    pub group-totals-long : length totals ≡ length totals₀
    group-totals-long = totals-long o words₀ totals₀ (take j group) words totals f items_fit (omega (arith, sentences))

    pub group-done : length us ≤ j → AllWritten o group words₀ totals₀ words totals
    group-done h = rw (take_all j group (omega (arith, group-long us p k long))) at f

    module _ (more : j < length us) where
      abbrev s : List ℕ
      s = p ++ (get_or us j 0 ∷ [])

      pub group-room : (k * j + k ≤ length words) × (j < length totals)
      group-room = (omega (arith, group-words-long, mul-le-mul_left {m = suc j} {n = length us} k more), omega (arith, group-totals-long))

      parted : group ≡ take j group ++ (s ∷ drop (suc j) group)
      parted =
          sym (take-append-drop j group)
          ∙ ap (λ (l : List (List ℕ)). take j group ++ l) (drop-cons group j [] (omega (arith, group-long us p k long)) ∙ ap (λ (x : List ℕ). x ∷ drop (suc j) group) (group_nth us p k long j more))

      -- the next is refused
      pub group-refused : is_scored o s ≡ false → OneRefused o group words₀ totals₀ words totals
      group-refused e =
          refused-here o words₀ totals₀ (take j group) words totals f items_fit (omega (arith, sentences)) group (ap (all_scored o) parted ∙ one_unscored o (take j group) (drop (suc j) group) s e)
          (omega (arith, ap (λ (l : List (List ℕ)). length (flat l)) (sym (take-append-drop j group)), ap length (flat_append (take j group) (drop j group)), length-append (flat (take j group)) (flat (drop j group))))
          (omega (arith, sentences, group-long us p k long))

      -- the next is written
      pub group-next : (x : ℤ) (n : ℕ) → is_scored o s ≡ true → x ≡ sentence_total o s → n ≡ k * j + k → AllWritten o (take (j + 1) group) words₀ totals₀ (take (k * j) words ++ s ++ drop n words) (set totals j x)
      group-next x n e t l =
          rw (add-one j, take-suc group j [] (omega (arith, group-long us p k long)), group_nth us p k long j more, append_assoc (take (k * j) words) s (drop n words))
          (subst (λ (i : ℕ). AllWritten o (take j group ++ (s ∷ [])) words₀ totals₀ (take (k * j) words ++ (s ++ drop n words)) (set totals i x)) sentences
          (subst (λ (a : ℕ). AllWritten o (take j group ++ (s ∷ [])) words₀ totals₀ (take a words ++ (s ++ drop n words)) (set totals (length (take j group)) x)) items
          (written_one o words₀ totals₀ (take j group) words totals f s x n e t (omega (arith, items, ended-long us p k long (get_or us j 0))) (omega (arith, sentences, group-totals-long)))))

-- ---- all groups

-- the sentences of the first g groups
abbrev pub in_groups : List ℕ → ℕ → ℕ → List (List ℕ)
in_groups us k g = flat (take g (map (ended_by us) (sentences_of (k - 1) us)))

module _ (us : List ℕ) where
  ended : (k : ℕ) → 1 ≤ k → sentences_of k us ≡ flat (map (ended_by us) (sentences_of (k - 1) us))
  unfolding sentences_of
  ended zero h = absurd (omega arith)
  ended (suc m) h = let e : suc m - 1 ≡ m = omega arith in rw e

  power_less : (k : ℕ) → 1 ≤ k → length us ^ k ≡ length us ^ (k - 1) * length us
  power_less zero h = absurd (omega arith)
  power_less (suc m) h = let e : suc m - 1 ≡ m = omega arith in rw e (pow-suc (length us) m)

module _ (o : Option Store) (us : List ℕ) (k : ℕ) (some : 1 ≤ k) (words₀ : List ℕ) (totals₀ : List ℤ) (words_fit : k * length us ^ k ≤ length words₀) (totals_fit : length us ^ k ≤ length totals₀) where
  abbrev ss : List (List ℕ)
  ss = sentences_of k us

  abbrev gs : List (List (List ℕ))
  gs = map (ended_by us) (sentences_of (k - 1) us)

  groups : length gs ≡ length us ^ (k - 1)
  groups = length-map (sentences_of (k - 1) us) (ended_by us) ∙ length-sentences us (k - 1)

  nth_group : (g : ℕ) → g < length us ^ (k - 1) → get_or gs g [] ≡ ended_by us (sentence_at us (k - 1) g)
  nth_group g h = get_or-map_in (ended_by us) (sentences_of (k - 1) us) g [] [] (omega (arith, length-sentences us (k - 1))) ∙ ap (ended_by us) (sentence_nth us (k - 1) g h)

  each-group : (g : ℕ) → g < length gs → length (get_or gs g []) ≡ length us
  each-group g h = let l : g < length us ^ (k - 1) = omega (arith, groups) in ap length (nth_group g l) ∙ length-map us (λ (u : ℕ). sentence_at us (k - 1) g ++ (u ∷ []))

  abbrev done : ℕ → List (List ℕ)
  done = in_groups us k

  module _ (g : ℕ) (within : g ≤ length us ^ (k - 1)) where
    sentences-done : length (done g) ≡ g * length us
    sentences-done = length-flat-take (length us) gs each-group g (omega (arith, groups)) ∙ omega arith

    few-done : g * length us ≤ length us ^ k
    few-done = rw (power_less us k some) (mul-le-mul_right (length us) within)

    done-is : done g ≡ take (g * length us) ss
    done-is =
        sym (take_at (flat (take g gs)) (flat (drop g gs)) (g * length us) sentences-done)
        ∙ ap (take (g * length us)) (sym (flat_append (take g gs) (drop g gs)) ∙ ap flat (take-append-drop g gs) ∙ sym (ended us k some))

    items-done : length (flat (done g)) ≡ k * (g * length us)
    items-done = ap (λ (l : List (List ℕ)). length (flat l)) done-is ∙ length-flat-take k ss (each_long us k) (g * length us) (omega (arith, few-done, length-sentences us k))

    done-fits : (length (flat (done g)) ≤ length words₀) × (length (done g) ≤ length totals₀)
    done-fits = (omega (arith, items-done, mul-le-mul_left k few-done), omega (arith, sentences-done, few-done))

    module _ (words : List ℕ) (totals : List ℤ) (f : AllWritten o (done g) words₀ totals₀ words totals) where
      pub all-words-long : length words ≡ length words₀
      all-words-long = words_long o words₀ totals₀ (done g) words totals f done-fits.0 done-fits.1

      pub all-totals-long : length totals ≡ length totals₀
      all-totals-long = totals-long o words₀ totals₀ (done g) words totals f done-fits.0 done-fits.1

      pub all_done : length us ^ (k - 1) ≤ g → AllWritten o ss words₀ totals₀ words totals
      all_done h = rw (take_all g gs (omega (arith, groups)), ← ended us k some) at f

      module _ (more : g < length us ^ (k - 1)) where
        abbrev next : List (List ℕ)
        next = ended_by us (sentence_at us (k - 1) g)

        one_more : done (g + 1) ≡ done g ++ next
        one_more = rw add-one (flat-take-suc gs g (omega (arith, groups)) ∙ ap (λ (l : List (List ℕ)). done g ++ l) (nth_group g more))

        room-left : suc g * length us ≤ length us ^ k
        room-left = rw (power_less us k some) (mul-le-mul_right (length us) more)

        -- the slices from the next group on
        pub all_room : (k * (g * length us) + k * length us ≤ length words) × (g * length us + length us ≤ length totals)
        all_room = (omega (arith, all-words-long, distributes, mul-le-mul_left k room-left), omega (arith, all-totals-long, room-left))
          where
            distributes : k * (suc g * length us) ≡ k * (g * length us) + k * length us
            distributes = ap (λ (n : ℕ). k * n) (omega arith) ∙ mul-add k (g * length us) (length us)

        -- by what the call for the group left on them
        module _ (w : List ℕ) (t : List ℤ) where
          abbrev words-rest : List ℕ
          words-rest = mid_of (k * (g * length us)) (length words - k * (g * length us)) words

          abbrev totals-rest : List ℤ
          totals-rest = mid_of (g * length us) (length totals - g * length us) totals

          words-lent : words-rest ≡ drop (length (flat (done g))) words
          words-lent = rest-lent (k * (g * length us)) words ∙ ap (λ (a : ℕ). drop a words) (sym items-done)

          totals-lent : totals-rest ≡ drop (length (done g)) totals
          totals-lent = rest-lent (g * length us) totals ∙ ap (λ (a : ℕ). drop a totals) (sym sentences-done)

          words_back : put_mid (k * (g * length us)) (length words - k * (g * length us)) words w ≡ take (length (flat (done g))) words ++ w
          words_back = rest_back (k * (g * length us)) words w ∙ ap (λ (a : ℕ). take a words ++ w) (sym items-done)

          totals-back : put_mid (g * length us) (length totals - g * length us) totals t ≡ take (length (done g)) totals ++ t
          totals-back = rest_back (g * length us) totals t ∙ ap (λ (a : ℕ). take a totals ++ t) (sym sentences-done)

          pub all-next : AllWritten o next words-rest totals-rest w t → AllWritten o (done (g + 1)) words₀ totals₀ (put_mid (k * (g * length us)) (length words - k * (g * length us)) words w) (put_mid (g * length us) (length totals - g * length us) totals t)
          all-next r = rw (words_back, totals-back, one_more) (written-more o words₀ totals₀ (done g) words totals f next w t (rw (words-lent, totals-lent) at r))

          pub all-refused : OneRefused o next words-rest totals-rest w t → OneRefused o ss words₀ totals₀ (put_mid (k * (g * length us)) (length words - k * (g * length us)) words w) (put_mid (g * length us) (length totals - g * length us) totals t)
          all-refused r =
              rw (words_back, totals-back)
              (refused_there o words₀ totals₀ (done g) words totals f done-fits.0 done-fits.1 ss (ap (all_scored o) parted ∙ some_unscored o (done g) next (flat (drop (suc g) gs)) r.refused) next w t (rw (words-lent, totals-lent) at r) (omega (arith, all-items, length-append (flat next) (flat (flat (drop (suc g) gs))))) (omega (arith, all-sentences, length-append next (flat (drop (suc g) gs)))))
            where
              parted : ss ≡ done g ++ (next ++ flat (drop (suc g) gs))
              parted =
                  ended us k some
                  ∙ ap flat (sym (take-append-drop g gs))
                  ∙ flat_append (take g gs) (drop g gs)
                  ∙ ap (λ (l : List (List (List ℕ))). done g ++ flat l) (drop-cons gs g [] (omega (arith, groups)))
                  ∙ (unfold flat in ap (λ (l : List (List ℕ)). done g ++ (l ++ flat (drop (suc g) gs))) (nth_group g more))

              all-sentences : length ss ≡ length (done g) + length (next ++ flat (drop (suc g) gs))
              all-sentences = ap length parted ∙ length-append (done g) _

              all-items : length (flat ss) ≡ length (flat (done g)) + length (flat next ++ flat (flat (drop (suc g) gs)))
              all-items =
                  ap (λ (l : List (List ℕ)). length (flat l)) parted
                  ∙ ap length (flat_append (done g) (next ++ flat (drop (suc g) gs)) ∙ ap (λ (l : List ℕ). flat (done g) ++ l) (flat_append next (flat (drop (suc g) gs))))
                  ∙ length-append (flat (done g)) _

  -- ---- where nothing is written

  pub no_words_lem : length us ≡ 0 → AllWritten o ss words₀ totals₀ words₀ totals₀
  no_words_lem e = rw none (written_none o words₀ totals₀)
    where
      none : ss ≡ []
      none = drop_of_length-le ss {i = 0} (omega (arith, length-sentences us k, power_less us k some, ap (λ (n : ℕ). length us ^ (k - 1) * n) e))

  pub none-scored : 0 < length us → ((s : List ℕ) → is_scored o s ≡ false) → OneRefused o ss words₀ totals₀ words₀ totals₀
  none-scored h e = refused-here o words₀ totals₀ [] words₀ totals₀ (written_none o words₀ totals₀) (unfold flat in omega arith) (omega arith) ss (first ss (omega (arith, length-sentences us k, one-le-pow k (length us) h))) (unfold flat in omega arith) (omega arith)
    where
      first : (l : List (List ℕ)) → 0 < length l → all_scored o l ≡ false
      first [] z = absurd (omega arith)
      first (x ∷ l) z = one_unscored o [] l x (e x)
