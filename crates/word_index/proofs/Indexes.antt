-- Laws of the index in the rows' free numbers: it starts empty, it finds a text, and it takes a word. Assumes nothing.
use Rattle.std.specs.declared.option.Option.TheVariants.{Some, None}
use mathlib.Core.Path.{◌≡◌, refl, sym, ap, ap₂, ◌∙◌}
use mathlib.Core.Logic.{⊎_elim}
use mathlib.Core.Bool.{Bool, true, false, cond}
use mathlib.Core.List.{List}
use Prim.Native.Nat.{ℕ, zero, suc, ◌+◌, ◌*◌, ◌-◌, ◌<◌, ◌≤◌}
use native.Mathlib.Nat.{mod-lt}
use native.Mathlib.Omega.{arith}
use lib.Dec.{eqb}
use lib.IntN.{ℤ, pos, nat_abs}
use lib.ListN.{length, get_or, set, length-set}
use borrow.Author.Tests.{eqb-true, eqb-false}
use Rattle.integer.specs.Integer.{between}
use Rattle.integer.proofs.Arithmetic.{zarith}
use Rattle.integer.proofs.Ranges.{between-yes, lt_or_ge}
use Rattle.rows.specs.Table.{field}
use Rattle.rows.proofs.Table.{field_stored, field-kept}
use Rattle.word_index.specs.Texts.{text_of, recorded, record_with}
use Rattle.backoff.specs.Limits.{text_limit}
use Rattle.word_index.specs.Index.{link_limit, hash, bucket_of, latest, Indexed, Room, linked, cleared, SameRows}
use Rattle.word_index.proofs.Texts.{number-none, number_at, number-absent}
use Rattle.word_index.proofs.Records.{record_length, byte_new, byte_kept, text-new, text-kept}
use Rattle.word_index.proofs.Chains.{latest_le, latest-some, latest-only, latest-same, latest-next}

pub bucket_less : (b : ℕ) (text : List ℕ) → 1 ≤ b → bucket_of b text < b
unfolding bucket_of
bucket_less b text l = mod-lt (hash text) l

-- ---- no word is indexed
pub cleared-length : (t : List ℤ) (n : ℕ) → length (cleared t n) ≡ length t
unfolding cleared
cleared-length t zero = refl
cleared-length t (suc n) = simp length-set (cleared-length t n)

module _ (t : List ℤ) where
  cleared-other : (n k j : ℕ) → j < 8 → (j ≡ 2 → ⊥) → (j ≡ 3 → ⊥) → field (cleared t n) k j ≡ field t k j
  unfolding cleared
  cleared-other zero k j l a b = refl
  cleared-other (suc n) k j l a b =
      field-kept (set (cleared t n) (8 * n + 2) (pos 0)) n 3 (pos 0) k j (λ z. b (omega arith))
      ∙ field-kept (cleared t n) n 2 (pos 0) k j (λ z. a (omega arith))
      ∙ cleared-other n k j l a b

  pub cleared-head : (n k : ℕ) → k < n → 8 * n ≤ length t → field (cleared t n) k 2 ≡ pos 0
  unfolding cleared
  cleared-head zero k l r = absurd (omega arith)
  cleared-head (suc n) k l r =
      field-kept (set (cleared t n) (8 * n + 2) (pos 0)) n 3 (pos 0) k 2 (λ z. absurd (omega arith))
      ∙ ⊎_elim
      (λ (p : k < n). field-kept (cleared t n) n 2 (pos 0) k 2 (λ z. absurd (omega arith)) ∙ cleared-head n k p (omega arith))
      (λ (p : n ≤ k).
      let e : k ≡ n = omega arith in
      let f = cleared-length t n in
      rw e (field_stored (cleared t n) n 2 (pos 0) (omega arith)))
      (lt_or_ge k n)

  pub cleared-rows : (n : ℕ) → SameRows t (cleared t n)
  cleared-rows n = record {
    long = cleared-length t n;
    before = λ k j l. cleared-other n k j (omega arith) (λ z. absurd (omega arith)) (λ z. absurd (omega arith));
    behind = λ k j l m. cleared-other n k j m (λ z. absurd (omega arith)) (λ z. absurd (omega arith));
  }

  pub indexed_none : (s : List ℕ) (b n : ℕ) → 1 ≤ b → b ≤ n → 8 * n ≤ length t → 256 ≤ length s → Indexed (cleared t n) s b 4
  unfolding latest
  indexed_none s b n some l r m =
      let e = cleared-length t n in
      record {
        some = some;
        start = omega arith;
        few = omega arith;
        head-room = omega arith;
        link-room = omega arith;
        store-room = omega arith;
        short = λ k a u. absurd (omega arith);
        distinct = λ j k a u v. absurd (omega arith);
        head = λ h u. cleared-head n h (omega arith) r;
        link = λ k a u. absurd (omega arith);
      }

-- ---- heads and links are words or 0
module _ (t : List ℤ) (s : List ℕ) (b words : ℕ) (x : Indexed t s b words) where
  in_range : (z : ℤ) (h n : ℕ) → n ≤ words → z ≡ pos (latest s b h n) → between (pos 0) (pos link_limit) z ≡ true
  in_range z h n l e =
      let m = latest_le s b h n in
      let f = x.few in
      rw e (between-yes (pos 0) (pos link_limit) (pos (latest s b h n)) (omega zarith) (omega zarith))

  pub head_in_range : (h : ℕ) → h < b → between (pos 0) (pos link_limit) (field t h 2) ≡ true
  head_in_range h l = in_range (field t h 2) h words (omega arith) (x.head h l)

  pub link_in_range : (k : ℕ) → 4 ≤ k → k < words → between (pos 0) (pos link_limit) (field t (k - 4) 3) ≡ true
  link_in_range k a l = in_range (field t (k - 4) 3) (bucket_of b (text_of s k)) k (omega arith) (x.link k a l)

-- ---- a chain is followed down to word k: no word above k has the text
pub record Following (s : List ℕ) (b words : ℕ) (text : List ℕ) (k : ℕ) : Type 0 where
  pub inside : k < words
  pub first : 0 < k → 4 ≤ k
  pub chain : 0 < k → bucket_of b (text_of s k) ≡ bucket_of b text
  pub absent : (j : ℕ) → k < j → 4 ≤ j → j < words → text_of s j ≡ text → ⊥

module _ (t : List ℤ) (s : List ℕ) (b words : ℕ) (text : List ℕ) (x : Indexed t s b words) where
  -- the latest word below n of the text's chain, where no word from n on has the text
  following_latest : (n : ℕ) → 1 ≤ n → n ≤ words → ((j : ℕ) → n ≤ j → j < words → text_of s j ≡ text → ⊥) → Following s b words text (latest s b (bucket_of b text) n)
  following_latest n a l h =
      let m = latest_le s b (bucket_of b text) n in
      record {
        inside = omega arith;
        first = λ p. (latest-some s b (bucket_of b text) n p).0;
        chain = λ p. (latest-some s b (bucket_of b text) n p).1;
        absent = λ j p q u e.
            ⊎_elim
            (λ (v : j < n). latest-only s b (bucket_of b text) n j p q v (ap (bucket_of b) e))
            (λ (v : n ≤ j). h j v u e)
            (lt_or_ge j n);
      }

  pub following_start : (k : ℕ) → field t (bucket_of b text) 2 ≡ pos k → Following s b words text k
  following_start k e =
      let f : k ≡ latest s b (bucket_of b text) words = ap nat_abs (sym e ∙ x.head (bucket_of b text) (bucket_less b text x.some)) in
      let a = x.start in
      rw f (following_latest words (omega arith) (omega arith) (λ j p q. absurd (omega arith)))

  pub following_next : (k l : ℕ) → 0 < k → Following s b words text k → (text_of s k ≡ text → ⊥) → field t (k - 4) 3 ≡ pos l → Following s b words text l
  following_next k l p w n e =
      let f : l ≡ latest s b (bucket_of b text) k = ap nat_abs (sym e ∙ x.link k (w.first p) w.inside ∙ ap (λ (h : ℕ). pos (latest s b h k)) (w.chain p)) in
      let i = w.inside in
      let a = w.first p in
      rw f
      (following_latest k (omega arith) (omega arith)
      (λ j u v g.
      ⊎_elim
      (λ (q : k < j). w.absent j q (omega arith) v g)
      (λ (q : j ≤ k). let z : j ≡ k = omega arith in n (ap (text_of s) (sym z) ∙ g))
      (lt_or_ge k j)))

  -- a link is below its word, so the chain ends
  pub following_falls : (k l : ℕ) → 0 < k → Following s b words text k → field t (k - 4) 3 ≡ pos l → l < k
  following_falls k l p w e =
      let f : l ≡ latest s b (bucket_of b (text_of s k)) k = ap nat_abs (sym e ∙ x.link k (w.first p) w.inside) in
      let m = latest_le s b (bucket_of b (text_of s k)) k in
      omega arith

  pub following_found : (k : ℕ) → 0 < k → Following s b words text k → text ≡ text_of s k → Some k ≡ record_with s words text
  following_found k p w e =
      sym
      (number_at s text words x.start k (w.first p) w.inside (sym e)
      (λ j a l f. x.distinct j k a l w.inside (f ∙ e)))

  pub following_none : (k : ℕ) → k ≤ 0 → Following s b words text k → None ≡ record_with s words text
  following_none k z w = sym (number-none s text words x.start (λ j a l e. w.absent j (omega arith) a l e))

-- ---- a word is added
module _ (t : List ℤ) (s : List ℕ) (b w : ℕ) (text : List ℕ) (x : Indexed t s b w) (r : Room t s w) (short : length text ≤ text_limit) where
  text_old : (j : ℕ) → 4 ≤ j → j < w → text_of (recorded s w text) j ≡ text_of s j
  text_old j a l = text-kept s w text r.record_room short j l (x.short j a l)

  latest_old : (h n : ℕ) → n ≤ w → latest (recorded s w text) b h n ≡ latest s b h n
  latest_old h n l = latest-same s b h (recorded s w text) n (λ j a m. text_old j a (omega arith))

  latest-added : (h : ℕ) → latest (recorded s w text) b h (w + 1) ≡ cond (eqb (bucket_of b text) h) w (latest s b h w)
  latest-added h =
      latest-next (recorded s w text) b h w x.start
      ∙ ap₂ (λ (y : List ℕ) (n : ℕ). cond (eqb (bucket_of b y) h) w n) (text-new s w text r.record_room short) (latest_old h w (omega arith))

  linked-length : length (linked t (bucket_of b text) w) ≡ length t
  unfolding linked
  linked-length = simp length-set refl

  head-added : (g : ℕ) → g < b → field (linked t (bucket_of b text) w) g 2 ≡ pos (latest (recorded s w text) b g (w + 1))
  unfolding linked
  head-added g l = go (eqb (bucket_of b text) g) refl ∙ ap pos (sym (latest-added g))
    where
      go : (q : Bool) → eqb (bucket_of b text) g ≡ q → field (linked t (bucket_of b text) w) g 2 ≡ pos (cond q w (latest s b g w))
      go true e =
          let f = eqb-true (bucket_of b text) g e in
          let m = bucket_less b text x.some in
          let n = x.head-room in
          rw (← f) (field_stored (set t (8 * (w - 4) + 3) (field t (bucket_of b text) 2)) (bucket_of b text) 2 (pos w) (rw length-set (omega arith)))
      go false e =
          let f = eqb-false (bucket_of b text) g e in
          field-kept (set t (8 * (w - 4) + 3) (field t (bucket_of b text) 2)) (bucket_of b text) 2 (pos w) g 2 (λ z. f (omega arith))
          ∙ field-kept t (w - 4) 3 (field t (bucket_of b text) 2) g 2 (λ z. absurd (omega arith))
          ∙ x.head g l

  link-added : (k : ℕ) → 4 ≤ k → k < w + 1 → field (linked t (bucket_of b text) w) (k - 4) 3 ≡ pos (latest (recorded s w text) b (bucket_of b (text_of (recorded s w text) k)) k)
  unfolding linked
  link-added k a l =
      field-kept (set t (8 * (w - 4) + 3) (field t (bucket_of b text) 2)) (bucket_of b text) 2 (pos w) (k - 4) 3 (λ z. absurd (omega arith))
      ∙ ⊎_elim
      (λ (p : k < w).
      let st = x.start in
      field-kept t (w - 4) 3 (field t (bucket_of b text) 2) (k - 4) 3 (λ z. absurd (omega arith))
      ∙ x.link k a p
      ∙ ap pos (sym (latest_old (bucket_of b (text_of s k)) k (omega arith)))
      ∙ ap (λ (y : List ℕ). pos (latest (recorded s w text) b (bucket_of b y) k)) (sym (text_old k a p)))
      (λ (p : w ≤ k).
      let e : k ≡ w = omega arith in
      let q = r.row in
      rw e
      (field_stored t (w - 4) 3 (field t (bucket_of b text) 2) (omega arith)
      ∙ x.head (bucket_of b text) (bucket_less b text x.some)
      ∙ ap pos (sym (latest_old (bucket_of b text) w (omega arith)))
      ∙ ap (λ (y : List ℕ). pos (latest (recorded s w text) b (bucket_of b y) w)) (sym (text-new s w text r.record_room short))))
      (lt_or_ge k w)

  short-added : (k : ℕ) → 4 ≤ k → k < w + 1 → get_or (recorded s w text) (64 * k) 0 ≤ text_limit
  short-added k a l =
      ⊎_elim
      (λ (p : k < w).
      let e = byte_kept s w text r.record_room short (64 * k) (omega arith) in
      let f = x.short k a p in
      omega arith)
      (λ (p : w ≤ k).
      let e : k ≡ w = omega arith in
      let f = byte_new s w text r.record_room short in
      rw e (omega arith))
      (lt_or_ge k w)

  module _ (new : record_with s w text ≡ None) where
    distinct-added : (j k : ℕ) → 4 ≤ j → j < k → k < w + 1 → text_of (recorded s w text) j ≡ text_of (recorded s w text) k → ⊥
    distinct-added j k a l m e =
        ⊎_elim
        (λ (p : k < w). x.distinct j k a l p (sym (text_old j a (omega arith)) ∙ e ∙ text_old k (omega arith) p))
        (λ (p : w ≤ k).
        let f : k ≡ w = omega arith in
        number-absent s text w x.start new j a (omega arith)
        (sym (text_old j a (omega arith)) ∙ e ∙ ap (text_of (recorded s w text)) f ∙ text-new s w text r.record_room short))
        (lt_or_ge k w)

    indexed_added : Indexed (linked t (bucket_of b text) w) (recorded s w text) b (w + 1)
    indexed_added =
        let e = linked-length in
        let f = record_length s w text r.record_room short in
        record {
          some = x.some;
          start = let a = x.start in omega arith;
          few = let a = r.few in omega arith;
          head-room = let a = x.head-room in omega arith;
          link-room = let a = r.row in let c = x.start in omega arith;
          store-room = let a = r.record_room in omega arith;
          short = short-added;
          distinct = distinct-added;
          head = head-added;
          link = link-added;
        }

    pub word-added : {h : ℕ} {t' : List ℤ} {s' : List ℕ} → h ≡ bucket_of b text → t' ≡ linked t h w → s' ≡ recorded s w text → (s' ≡ recorded s w text) × (t' ≡ linked t (bucket_of b text) w) × Indexed t' s' b (w + 1)
    word-added d e f = (f, e ∙ ap (λ (x : ℕ). linked t x w) d, rw (e, d, f) indexed_added)
