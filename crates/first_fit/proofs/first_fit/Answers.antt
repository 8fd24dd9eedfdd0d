-- The chain leads from d to the next slot that may fit, and where it does fit, that is the smallest.
use mathlib.Core.Path.{◌≡◌, sym, ap, ◌∙◌, subst}
use mathlib.Core.Bool.{Bool, true, false}
use mathlib.Core.List.{List}
use Prim.Native.Nat.{ℕ, ◌+◌, ◌≤◌, ◌<◌}
use native.Mathlib.Omega.{arith}
use lib.IntN.{ℤ}
use Rattle.rows.specs.Table.{rows_of}
use Rattle.child_slots.specs.Children.{child_slot}
use Rattle.placing.specs.Placing.{Room, is_free, is_open, all_open, fits}
use Rattle.placing.proofs.FirstFit.{open_yes, side_at, fits-yes, d_taken, sides_taken}
use Rattle.free_slots.specs.Chain.{next_free, Linked}
use Rattle.free_slots.proofs.Chain.{linked-base-length, linked-check-length}
use Rattle.free_slots.proofs.Search.{Searched, PassedTo, passed_none, passed-next, fit_found, fit_not_found}
use Rattle.first_fit.specs.Steps.{oldest_of, FoundFit}
use Rattle.first_fit.proofs.OldestWords.{open_is, first_fails, open_step, open_fails, open_end}
use Rattle.first_fit.proofs.first_fit.Goals as goal

-- the search has come where the chain leads
come : {N : ℕ} {room : Room} (ws : List ℕ) {l d : ℕ} (P : PassedTo N room (fits room ws) l) → d ≡ next_free N room l → Searched N room (fits room ws) d
come {N} {room} ws P led = subst (Searched N room (fits room ws)) (sym led) P.next

module _ {N : ℕ} {b room : Room} {base check : List ℤ} (rows : List ℤ) (L : Linked N b room base check) {d : ℕ} (S : Searched N room (fits room (oldest_of rows)) d) where
  -- what the test of a slot ahead tells
  tested : (w : ℕ) {r v : Bool} → (1 ≤ d + w → r ≡ is_free (room (d + w))) → r ≡ v → is_open room (child_slot false d w) ≡ v
  tested w told e =
      let p : 1 ≤ d + w = omega (arith, S.positive) in
      sym (open_is room (d + w) p) ∙ sym (told p) ∙ e

  module _ (i : d < N) where
    here : is_open room d ≡ true
    here = open_yes room d S.positive (S.free i)

    -- it ends where all slots on a side are open, those behind d or, where these are not, those ahead
    found : (behind : Bool) → all_open room behind d (oldest_of rows) ≡ true → all_open room true d (oldest_of rows) ≡ behind → FoundFit N room rows d behind
    found behind h s =
        let e = fit_found N room (oldest_of rows) L.past S i (fits-yes room (oldest_of rows) behind d (S.free i) h) in
        record { d_is = e; side_is = λ l. sym s ∙ ap (side_at room (oldest_of rows)) (omega (arith, e)) }

    -- and goes on where they are on neither
    passed : all_open room true d (oldest_of rows) ≡ false → all_open room false d (oldest_of rows) ≡ false → PassedTo N room (fits room (oldest_of rows)) d
    passed behind ahead = passed-next N room (fits room (oldest_of rows)) (d_taken room (oldest_of rows)) S i (sides_taken room (oldest_of rows) d behind ahead)

pub free-init : goal.free-init
free-init c N b room L = passed_none N room (fits room (oldest_of c.args.rows.now)) (d_taken room (oldest_of c.args.rows.now)) L.size.0

pub returns-then-d-check : goal.returns-then-d-check
returns-then-d-check c N b room L =
    let ws = oldest_of c.args.rows.now in
    let P = c.free.invariant N b room L in
    let S = come ws P (c.next-d.ensures N b room _ L P.inside P.member) in
    let last : c.next-d.result ≡ N = c.if-d-check.true ∙ linked-check-length L in
    record { d_is = last ∙ fit_not_found N room ws L.past (subst (Searched N room (fits room ws)) last S); side_is = λ l. absurd (omega arith) }

pub returns-then-all_open_behind : goal.returns-then-all_open_behind
returns-then-all_open_behind c N b room L =
    let rows = c.args.rows.now in
    let P = c.free.invariant N b room L in
    let S = come (oldest_of rows) P (c.next-d.ensures N b room _ L P.inside P.member) in
    let i : c.next-d.result < N = omega (arith, c.if-d-check.false, S.within, linked-check-length L) in
    let h = sym (c.all_open_behind.ensures N b room _ L (here rows L S i)) ∙ c.if-all_open_behind.true in
    found rows L S i true h h

pub free-smaller-then-not-is_free : goal.free-smaller-then-not-is_free
free-smaller-then-not-is_free c =
    let p = c.requires.1 in
    let P = c.free.invariant p.N p.b p.c p.linked in
    let led = c.next-d.ensures p.N p.b p.c _ p.linked P.inside P.member in
    let S = come (oldest_of c.args.rows.now) P led in
    omega (arith, c.if-d-check.false, S.within, linked-check-length p.linked, linked-base-length p.linked, led, P.above)

pub free-preserved-then-not-is_free : goal.free-preserved-then-not-is_free
free-preserved-then-not-is_free c N b room L =
    let rows = c.args.rows.now in
    let d = c.next-d.result in
    let w = c.last_word-last.result in
    let P = c.free.invariant N b room L in
    let S = come (oldest_of rows) P (c.next-d.ensures N b room _ L P.inside P.member) in
    let i : d < N = omega (arith, c.if-d-check.false, S.within, linked-check-length L) in
    let o = here rows L S i in
    let behind = sym (c.all_open_behind.ensures N b room _ L o) ∙ c.if-all_open_behind.false in
    let ahead = c.last_word-last.ensures.same room false d o ∙ first_fails room false d w (oldest_of rows) (tested rows L S w (c.is_free.ensures N b room _ L) c.if-not-is_free.true) in
    passed rows L S i behind ahead

pub free-smaller : goal.free-smaller
free-smaller c =
    let p = c.requires.1 in
    let P = c.free.invariant p.N p.b p.c p.linked in
    let led = c.next-d.ensures p.N p.b p.c _ p.linked P.inside P.member in
    let S = come (oldest_of c.args.rows.now) P led in
    omega (arith, c.if-d-check.false, S.within, linked-check-length p.linked, linked-base-length p.linked, led, P.above)

pub free-preserved : goal.free-preserved
unfolding rows_of
free-preserved c N b room L =
    let rows = c.args.rows.now in
    let d = c.next-d.result in
    let P = c.free.invariant N b room L in
    let S = come (oldest_of rows) P (c.next-d.ensures N b room _ L P.inside P.member) in
    let i : d < N = omega (arith, c.if-d-check.false, S.within, linked-check-length L) in
    let behind = sym (c.all_open_behind.ensures N b room _ L (here rows L S i)) ∙ c.if-all_open_behind.false in
    let taken = ap (λ (w : ℕ). is_open room (child_slot false d w)) (sym c.oldest_word.ensures.0) ∙ tested rows L S c.oldest_word.result (c.is_free-in-loop-k.ensures N b room _ L) c.if-not-is_free-2.true in
    passed rows L S i behind (c.loop-k.invariant N b room L ∙ open_fails rows c.loop-k.k (rows_of rows) room false d c.loop-k-test.true taken)

pub loop-k-preserved : goal.loop-k-preserved
unfolding rows_of
loop-k-preserved c N b room L =
    let rows = c.args.rows.now in
    let d = c.next-d.result in
    let P = c.free.invariant N b room L in
    let S = come (oldest_of rows) P (c.next-d.ensures N b room _ L P.inside P.member) in
    let free = ap (λ (w : ℕ). is_open room (child_slot false d w)) (sym c.oldest_word.ensures.0) ∙ tested rows L S c.oldest_word.result (c.is_free-in-loop-k.ensures N b room _ L) c.if-not-is_free-2.false in
    c.loop-k.invariant N b room L ∙ open_step rows c.loop-k.k (rows_of rows) room false d c.loop-k-test.true free

pub returns-after-loop-k : goal.returns-after-loop-k
unfolding rows_of
returns-after-loop-k c N b room L =
    let rows = c.args.rows.now in
    let d = c.next-d.result in
    let P = c.free.invariant N b room L in
    let S = come (oldest_of rows) P (c.next-d.ensures N b room _ L P.inside P.member) in
    let i : d < N = omega (arith, c.if-d-check.false, S.within, linked-check-length L) in
    let behind = sym (c.all_open_behind.ensures N b room _ L (here rows L S i)) ∙ c.if-all_open_behind.false in
    found rows L S i false (c.loop-k.invariant N b room L ∙ open_end rows c.loop-k.k (rows_of rows) room false d c.loop-k-test.false) behind
