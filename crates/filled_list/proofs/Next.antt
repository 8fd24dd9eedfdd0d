-- Which sequence comes next in the filled list: of the rows of one length, the first whose key is not below a bound has the least last words. Assumes nothing.
use Rattle.std.specs.declared.option.Option.{Option}
use Rattle.std.specs.declared.option.Option.TheVariants.{Some, None}
use mathlib.Core.Path.{◌≡◌, refl, sym, ap, ◌∙◌}
use mathlib.Core.Logic.{◌⊎◌, inl, inr, ⊎_elim}
use mathlib.Core.Bool.{true, false}
use mathlib.Core.List.{List}
use Prim.Native.Nat.{ℕ, suc, ◌+◌, ◌-◌, ◌≤◌, ◌<◌}
use native.Mathlib.Omega.{arith}
use lib.ListN.{length, drop, length-append}
use lib.Dec.{ltb}
use borrow.Author.Tests.{ltb-true, ltb-false}
use lib.Seq.{drop_at}
use lib.IntN.{ℤ}
use Rattle.integer.proofs.Ranges.{lt_or_ge}
use Rattle.backoff.specs.Limits.{order_limit}
use Rattle.backoff.specs.Words.{are_words, radix, key}
use Rattle.backoff.specs.Refusal.{Accepted}
use Rattle.rows.specs.Table.{rows_of, length_of, order_of, words}
use Rattle.rows.specs.Good.{Good}
use Rattle.rows.specs.Keys.{key_of, row_key}
use Rattle.rows.proofs.Table.{row_in, words-length, order_limit_lem}
use Rattle.rows.proofs.Good.{lengths-ascend, are_words_lem, ascend-key}
use Rattle.rows.proofs.Keys.{key_unique}
use Rattle.row_search.specs.Search.{find_in}
use Rattle.row_search.specs.ByKey.{Bracket}
use Rattle.row_search.proofs.ByKey.{keys_ascend}
use Rattle.row_search.proofs.Search.{found-words}
use Rattle.list.specs.Check.{verdict_for}
use Rattle.list.proofs.ListModel.{length-order}
use Rattle.list.proofs.Check.{checked-good, checked-size}
use Rattle.filled_list.specs.Filled.{filled_table}
use Rattle.std.specs.declared.option.Option.{Option}
use Rattle.filled_list.specs.declared.NextRow.{NextRow}
use Rattle.filled_list.specs.Found.{BestOf}
use Rattle.filled_list.specs.Next.{zeros, power, last_words, end_key, Candidate, Least, Best, Filling, ComesNext}
use Rattle.filled_list.proofs.FilledRows.{end-words, end-some}
use Rattle.filled_list.proofs.FilledTable.{filled-end, filled-checked}
use Rattle.filled_list.proofs.FilledModel.{filled_finds, filled-order}
use Rattle.filled_list.proofs.Zeros.{zeros_le, zeros-zeros, above-end, end-above, power_le, key_below, long-enough, short-enough}
use Rattle.filled_list.proofs.LastWords.{last-size, last-all, last-words-end}

-- ---- the rows of one length

row-size : (t : List ℤ) (i : ℕ) → i < rows_of t → length (words t i) ≡ length_of t i
row-size t i l = words-length t i (row_in t i l)

module _ (t : List ℤ) (g : Good t (rows_of t)) where
  row_words_lem : (i : ℕ) → i < rows_of t → are_words (words t i) ≡ true
  row_words_lem i l = are_words_lem t i (g.row i l)

  module _ (m floor k : ℕ) (low : power (m - 1) ≤ floor) (some : 0 < m) (mk : m ≤ k) where
    -- a candidate of k words
    bound_key : (i : ℕ) → Candidate t m floor (suc k) i → length_of t i ≡ k → zeros (k - m) floor ≤ row_key t i
    unfolding row_key last_words
    bound_key i c e =
        let z : length_of t i - m ≡ k - m = omega arith in
        end-above (k - m) floor (words t i) (omega (arith, row-size t i c.within)) (rw z at c.above)

    key_bound : (i : ℕ) → i < rows_of t → length_of t i ≡ k → zeros (k - m) floor ≤ row_key t i → Candidate t m floor (suc k) i
    unfolding row_key last_words
    key_bound i l e h =
        let z : length_of t i - m ≡ k - m = omega arith in
        record {
          within = l;
          long = omega arith;
          short = omega arith;
          above = rw z (above-end (k - m) floor (words t i) (row_words_lem i l) (omega (arith, row-size t i l)) h);
        }

    -- rows from the bound on have k words or more
    bound_long : (i : ℕ) → i < rows_of t → zeros (k - m) floor ≤ row_key t i → k ≤ length_of t i
    unfolding row_key power
    bound_long i l h =
        let a = zeros_le (k - m) (zeros (m - 1) 1) floor low in
        let e : k - m + (m - 1) ≡ k - 1 = omega arith in
        let b : zeros (k - m) (zeros (m - 1) 1) ≡ zeros (k - 1) 1 = zeros-zeros (k - m) (m - 1) 1 ∙ ap (λ (j : ℕ). zeros j 1) e in
        let c = long-enough (k - 1) (words t i) (row_words_lem i l) (omega arith) in
        omega (arith, row-size t i l)

    -- last words of rows of one length ascend with the rows
    ends-ascend : (i j : ℕ) → i ≤ j → j < rows_of t → length_of t i ≡ k → length_of t j ≡ k → end_key t i m ≤ end_key t j m
    unfolding row_key last_words
    ends-ascend i j l n e f =
        let y : length_of t i - m ≡ k - m = omega arith in
        let z : length_of t j - m ≡ k - m = omega arith in
        let a = end-above (k - m) (key (drop (k - m) (words t i))) (words t i) (omega (arith, row-size t i (omega arith))) (omega arith) in
        let b = keys_ascend t g i j l n in
        rw (y, z) (above-end (k - m) (key (drop (k - m) (words t i))) (words t j) (row_words_lem j n) (omega (arith, row-size t j n)) (omega arith))

    module _ (r s : ℕ) (h : Least t m floor k r) (b : Bracket t (zeros (k - m) floor) s s) where
      -- a candidate of fewer words was one before
      fewer : (i : ℕ) → Candidate t m floor (suc k) i → (Candidate t m floor k i) ⊎ (length_of t i ≡ k)
      fewer i c =
          ⊎_elim (λ p. inl (record { within = c.within; long = c.long; short = p; above = c.above })) (λ (p : k ≤ length_of t i). inr (let q = c.short in omega arith)) (lt_or_ge (length_of t i) k)

      -- the bound is not behind a candidate of k words, and has k words itself then
      not_behind : (i : ℕ) → Candidate t m floor (suc k) i → length_of t i ≡ k → s ≤ i
      not_behind i c e = ⊎_elim (λ p. absurd (let u = b.below i p in let v = bound_key i c e in omega arith)) (λ p. p) (lt_or_ge i s)

      bound_length : (i : ℕ) → Candidate t m floor (suc k) i → length_of t i ≡ k → (s < rows_of t) × (length_of t s ≡ k)
      bound_length i c e =
          let n = not_behind i c e in
          let l = c.within in
          let w : s < rows_of t = omega arith in
          (w, let a = bound_long s w (b.above s (omega arith) w) in let d = lengths-ascend t g s i n l in omega arith)

      longer : (i : ℕ) → Candidate t m floor k i → Candidate t m floor (suc k) i
      longer i c = record { within = c.within; long = c.long; short = let p = c.short in omega arith; above = c.above }

      -- the row at the bound is no candidate of k words: nothing changes
      pub least-same : (s < rows_of t → length_of t s ≡ k → ⊥) → Least t m floor (suc k) r
      least-same n = record {
        within = h.within;
        one = λ l. longer r (h.one l);
        least = λ i c. ⊎_elim (λ d. h.least i d) (λ e. absurd (let q = bound_length i c e in n q.0 q.1)) (fewer i c);
      }

      module _ (l : s < rows_of t) (e : length_of t s ≡ k) where
        -- it is one, and its last words are less, or there was none
        least-new : (r < rows_of t → end_key t s m < end_key t r m) → Least t m floor (suc k) s
        least-new n = record {
          within = omega arith;
          one = λ _. key_bound s l e (b.above s (omega arith) l);
          least = λ i c. (
            l,
            ⊎_elim
                (λ d. let q = h.least i d in let u = n q.0 in let v = q.1 in omega arith)
                (λ f. ends-ascend s i (not_behind i c f) c.within e f)
                (fewer i c),
          );
        }

        -- it is one, and its last words are not less
        least_old : r < rows_of t → end_key t r m ≤ end_key t s m → Least t m floor (suc k) r
        least_old w n = record {
          within = h.within;
          one = λ p. longer r (h.one p);
          least = λ i c. (
            w,
            ⊎_elim
                (λ d. (h.least i d).1)
                (λ f. let u = ends-ascend s i (not_behind i c f) c.within e f in omega arith)
                (fewer i c),
          );
        }

  -- the row at the bound, of k words, against the best so far, by their keys
  module _ (m floor k : ℕ) (low : power (m - 1) ≤ floor) (some : 0 < m) (mk : m ≤ k) (r s high₁ low₁ high₂ low₂ : ℕ) (h : Best t m floor k r high₁ low₁) (b : Bracket t (zeros (k - m) floor) s s) (l : s < rows_of t) (e : length_of t s ≡ k) (q : key_of high₂ low₂ ≡ end_key t s m) where
    pub best-new : (r < rows_of t → ltb (key_of high₂ low₂) (key_of high₁ low₁) ≡ true) → Best t m floor (suc k) s high₂ low₂
    best-new n = record {
      least = least-new m floor k low some mk r s h.least b l e less;
      key-is = λ _. q;
      absent = λ w o i j f z.
          let c = key_bound m floor k low some mk s l e (b.above s (omega arith) l) in
          let d = h.least.least i (record { within = j; long = omega arith; short = omega arith; above = let v = c.above in omega arith }) in
          let u = less d.0 in
          let v = d.1 in
          omega arith;
    }
      where
        less : r < rows_of t → end_key t s m < end_key t r m
        less w = let u = ltb-true (key_of high₂ low₂) (key_of high₁ low₁) (n w) in rw (← h.key-is w, ← q) u

    pub best_old : r < rows_of t → ltb (key_of high₂ low₂) (key_of high₁ low₁) ≡ false → Best t m floor (suc k) r high₁ low₁
    best_old w n = record {
      least = least_old m floor k low some mk r s h.least b l e w (let u = ltb-false (key_of high₂ low₂) (key_of high₁ low₁) n in rw (← h.key-is w, ← q) u);
      key-is = h.key-is;
      absent = h.absent;
    }

  -- where the row at the bound is no candidate, what was found stays the best
  module _ (m floor k : ℕ) (low : power (m - 1) ≤ floor) (some : 0 < m) (mk : m ≤ k) (s : ℕ) (b : Bracket t (zeros (k - m) floor) s s) (n : s < rows_of t → length_of t s ≡ k → ⊥) where
    kept : (r high₁ low₁ : ℕ) → Best t m floor k r high₁ low₁ → Best t m floor (suc k) r high₁ low₁
    kept r high₁ low₁ h = record { least = least-same m floor k low some mk r s h.least b n; key-is = h.key-is; absent = h.absent }

    pub best-kept : (best : Option NextRow) → BestOf t m floor k best → BestOf t m floor (suc k) best
    best-kept (Some next) h = (h.0, kept next.row next.key.high next.key.low h.1)
    best-kept None h = kept (rows_of t) 0 0 h

  least_start : (m floor : ℕ) → Least t m floor m (rows_of t)
  least_start m floor = record {
    within = omega arith;
    one = λ l. absurd (omega arith);
    least = λ i c. absurd (let a = c.long in let b = c.short in omega arith);
  }

  pub best-start : (m floor high low : ℕ) → Best t m floor m (rows_of t) high low
  best-start m floor high low = record { least = least_start m floor; key-is = λ l. absurd (omega arith); absent = λ l. absurd (omega arith) }

  -- the last words of a longer row are no row if they come next
  pub best-absent : (m floor to r high low : ℕ) → Best t m floor to r high low → r < rows_of t → m < length_of t r → find_in t (last_words t r m) ≡ None
  best-absent m floor to r high low b l h = go (find_in t (last_words t r m)) refl
    where
      go : (f : Option ℕ) → find_in t (last_words t r m) ≡ f → f ≡ None
      go None e = refl
      go (Some j) e =
          let w = found-words t (last_words t r m) j e in
          let size : length_of t j ≡ m = sym (row-size t j w.0) ∙ ap length w.1 ∙ last-size t r m l (omega arith) in
          absurd (b.absent l h j w.0 size (ap key (ap (last_words t j) (sym size) ∙ last-all t j ∙ w.1)))

-- ---- the place in the filled list

module _ (t : List ℤ) (a : verdict_for true t ≡ Accepted) where
  filled-words : (j : ℕ) → j < rows_of (filled_table t) → are_words (words (filled_table t) j) ≡ true
  filled-words = row_words_lem (filled_table t) (filled-checked t a)

  -- a row of the filled list is the last words of a row
  row-is-last-words : (j : ℕ) → j < rows_of (filled_table t) → (i : ℕ) × (i < rows_of t) × (length_of (filled_table t) j ≤ length_of t i) × (words (filled_table t) j ≡ last_words t i (length_of (filled_table t) j))
  unfolding last_words
  row-is-last-words j l =
      let e = filled-end t (checked-good true t a) j l in
      let n = row-size (filled_table t) j l in
      let p : length e.front ≡ length_of t e.at - length_of (filled_table t) j = omega (arith, sym (row-size t e.at e.within) ∙ ap length e.same, length-append e.front (words (filled_table t) j)) in
      let q = (end-some t (checked-good true t a) (words (filled_table t) j) e).1 in
      (e.at, e.within, omega arith, sym (ap (drop (length_of t e.at - length_of (filled_table t) j)) e.same ∙ drop_at e.front (words (filled_table t) j) (length_of t e.at - length_of (filled_table t) j) p))

  -- ---- filling under way

  pub filling-starts : (n : ℕ) → n ≡ order_of t → Filling t n 1 0 1 0
  unfolding power zeros row_key
  filling-starts n e = record {
    order_is = e;
    some = omega arith;
    within = omega arith;
    from = omega arith;
    to = omega arith;
    bracket = record {
      order = omega arith;
      within = omega arith;
      below = λ j q. absurd (omega arith);
      above = λ j q w. ⊎_elim (λ u. absurd (let s = short-enough 0 (words (filled_table t) j) (filled-words j w) u in let n = ((filled-checked t a).row j w).some in omega (arith, row-size (filled_table t) j w))) (λ u. u) (lt_or_ge (row_key (filled_table t) j) (power 0));
    };
  }

  module _ (n m high low place : ℕ) (f : Filling t n m high low place) where
    abbrev floor : ℕ
    floor = key_of high low

    -- a row from the floor on has m words or more
    from_floor : (j : ℕ) → j < rows_of (filled_table t) → floor ≤ row_key (filled_table t) j → m ≤ length_of (filled_table t) j
    unfolding row_key
    from_floor j l h =
        let s = f.some in
        let low = f.from in
        let c = long-enough (m - 1) (words (filled_table t) j) (filled-words j l) (omega arith) in
        omega (arith, row-size (filled_table t) j l)

    -- and if it has m, it is a candidate
    candidate : (j : ℕ) → j < rows_of (filled_table t) → length_of (filled_table t) j ≡ m → floor ≤ row_key (filled_table t) j → (i : ℕ) × Candidate t m floor (suc (order_of t)) i × (words (filled_table t) j ≡ last_words t i m)
    unfolding row_key
    candidate j l e h =
        let c = row-is-last-words j l in
        let s : words (filled_table t) j ≡ last_words t c.0 m = c.3 ∙ ap (last_words t c.0) e in
        let o = length-order t (checked-good true t a) (checked-size true t a).0 c.0 c.1 in
        (c.0, record { within = c.1; long = let q = c.2 in omega arith; short = omega arith; above = rw (ap key s) at h }, s)

    -- past the longest rows there is no row left
    pub filling-ends : n < m → place ≡ rows_of (filled_table t)
    filling-ends n-short = ⊎_elim (λ l. absurd (longer l)) (λ l. let w = f.bracket.within in omega arith) (lt_or_ge place (rows_of (filled_table t)))
      where
        longer : place < rows_of (filled_table t) → ⊥
        longer l =
            let h = from_floor place l (f.bracket.above place (omega arith) l) in
            let o = length-order (filled_table t) (filled-checked t a) (omega arith) place l in
            omega (arith, filled-order t (checked-good true t a) (checked-size true t a).0, f.order_is)

    module _ (l : m ≤ n) where
      pub filling_asks : (0 < m) × (m ≤ n) × (n ≤ order_limit) × (power (m - 1) ≤ floor) × (floor ≤ power m)
      filling_asks = (f.some, l, omega (arith, order_limit_lem t, f.order_is), f.from, f.to)

      pub zeros-room : zeros m 1 ≤ power order_limit
      unfolding power
      zeros-room = power_le m order_limit (omega (arith, order_limit_lem t, f.order_is))

      module _ (r high' low' : ℕ) (b : Best t m floor (suc n) r high' low') where
        best : Least t m floor (suc (order_of t)) r
        best = rw f.order_is at b.least

        -- no candidate: the next row has more words
        next-length : r ≡ rows_of t → Bracket (filled_table t) (power m) place place
        unfolding row_key
        next-length e = record {
          order = omega arith;
          within = f.bracket.within;
          below = λ j q.
              let v = f.bracket.below j q in
              let h = f.to in
              omega arith;
          above = λ j q w.
              ⊎_elim
              (λ (u : row_key (filled_table t) j < power m).
              let h = f.bracket.above j q w in
              let n = from_floor j w h in
              let s = short-enough m (words (filled_table t) j) (filled-words j w) u in
              let c = candidate j w (omega (arith, row-size (filled_table t) j w)) h in
              absurd (let v = (best.least c.0 c.1).0 in omega arith))
              (λ u. u)
              (lt_or_ge (row_key (filled_table t) j) (power m));
        }

        pub filling-longer : r ≡ rows_of t → (high'' low'' : ℕ) → key_of high'' low'' ≡ zeros m 1 → Filling t n (m + 1) high'' low'' place
        unfolding power
        filling-longer e high'' low'' x =
            let y : m + 1 - 1 ≡ m = omega arith in
            record {
              order_is = f.order_is;
              some = omega arith;
              within = omega arith;
              from = rw (x, y) (omega arith);
              to = rw x (power_le m (m + 1) (omega arith));
              bracket = rw x (next-length e);
            }

  -- the least candidate's last words are the next row
  module _ (n place m r high low : ℕ) (x : ComesNext t n place m r high low) (l : m ≤ n) where
    abbrev f : Filling t n m x.floor_high x.floor_low place
    f = x.filling

    abbrev b : Best t m (key_of x.floor_high x.floor_low) (suc n) r high low
    b = x.best l

    abbrev w : r < rows_of t
    w = x.one l

    abbrev most : Least t m (key_of x.floor_high x.floor_low) (suc (order_of t)) r
    most = best n m x.floor_high x.floor_low place f l r high low b

    -- they are not above a row of m words from the floor on
    not-above : (j : ℕ) → j < rows_of (filled_table t) → length_of (filled_table t) j ≡ m → key_of x.floor_high x.floor_low ≤ row_key (filled_table t) j → end_key t r m ≤ key (words (filled_table t) j)
    not-above j l e h =
        let z = candidate n m x.floor_high x.floor_low place f j l e h in
        rw z.2 (most.least z.0 z.1).1

    pub next-words : (place < rows_of (filled_table t)) × (words (filled_table t) place ≡ last_words t r m)
    unfolding row_key
    next-words =
        let c = most.one w in
        let d = last-words-end t a r m w f.some c.long in
        let p = filled_finds t (checked-good true t a) (last_words t r m) d in
        let j = p.0 in
        let k : row_key (filled_table t) j ≡ end_key t r m = ap key p.2 in
        let up : place ≤ j = ⊎_elim (λ q. absurd (let u = f.bracket.below j q in let v = c.above in omega arith)) (λ q. q) (lt_or_ge j place) in
        let within : place < rows_of (filled_table t) = let q = p.1 in omega arith in
        let h = f.bracket.above place (omega arith) within in
        let n = from_floor n m x.floor_high x.floor_low place f place within h in
        let size : length_of (filled_table t) place ≡ m = let q = lengths-ascend (filled_table t) (filled-checked t a) place j up p.1 in omega (arith, row-size (filled_table t) j p.1, ap length p.2, last-size t r m w c.long) in
        let y = not-above place within size h in
        let v = keys_ascend (filled_table t) (filled-checked t a) place j up p.1 in
        let same : key (words (filled_table t) place) ≡ key (last_words t r m) = omega arith in
        (within, key_unique (words (filled_table t) place) (last_words t r m) (filled-words place within) (end-words t (checked-good true t a) (last_words t r m) d) same)

    next-bracket : Bracket (filled_table t) (end_key t r m + 1) (place + 1) (place + 1)
    unfolding row_key
    next-bracket =
        let w = next-words.0 in
        let e : row_key (filled_table t) place ≡ end_key t r m = ap key next-words.1 in
        record {
          order = omega arith;
          within = omega arith;
          below = λ j q. let u = keys_ascend (filled_table t) (filled-checked t a) j place (omega arith) w in omega arith;
          above = λ j q n. let u = ascend-key (filled_table t) (rows_of (filled_table t)) place j (filled-checked t a) (omega arith) n in omega arith;
        }

    next-least : end_key t r m + 1 ≤ power m
    next-least =
        let c = most.one w in
        let e = key_below (last_words t r m) (end-words t (checked-good true t a) (last_words t r m) (last-words-end t a r m w f.some c.long)) in
        let q : key (last_words t r m) < power m = rw (last-size t r m w c.long) at e in
        omega arith

    pub next-high : high < radix
    unfolding power zeros
    next-high =
        let u = next-least in
        let v = zeros-room n m x.floor_high x.floor_low place f l in
        let y = b.key-is w in
        omega arith

    pub next_on : (high' low' : ℕ) → key_of high' low' ≡ key_of high low + 1 → Filling t n m high' low' (place + 1)
    next_on high' low' e =
        let y : key_of high' low' ≡ end_key t r m + 1 = e ∙ ap (λ (k : ℕ). k + 1) (b.key-is w) in
        record {
          order_is = f.order_is;
          some = f.some;
          within = f.within;
          from = rw y (let c = (most.one w).above in let h = f.from in omega arith);
          to = rw y next-least;
          bracket = rw y next-bracket;
        }
