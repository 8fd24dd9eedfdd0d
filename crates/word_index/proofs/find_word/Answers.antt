-- A chain is followed from its head to the record that has the text, or to its end. Assumes nothing.
use Rattle.std.proofs.Common.{◌≡◌, ℕ, List, pos, true≢false, sym, ap, ◌∙◌, subst, arith}
use Rattle.backoff.proofs.Words.{same_eq, same_refl}
use Rattle.backoff.specs.Words.{same_words}
use Rattle.rows.specs.Table.{field}
use Rattle.word_index.specs.Texts.{text_of}
use Rattle.word_index.proofs.Indexes.{following_start, following_next, following_falls, following_found, following_none, head_in_range, link_in_range}
use Rattle.word_index.proofs.find_word.Goals as goal

pub link_at-k-requires : goal.link_at-k-requires
link_at-k-requires c =
    let x = c.requires.1 in
    let room = x.head-room in
    let l = c.bucket_of-h.ensures.1 in
    (omega arith, omega arith, head_in_range c.args.table.now c.args.store.now c.args.buckets c.requires.0 x c.bucket_of-h.result l)

pub loop-k-init : goal.loop-k-init
loop-k-init c words x =
    following_start c.args.table.now c.args.store.now c.args.buckets words c.args.text.now x c.link_at-k.result
    (subst (λ (h : ℕ). field c.args.table.now h 2 ≡ pos c.link_at-k.result) c.bucket_of-h.ensures.0 c.link_at-k.ensures)

pub same_text-requires : goal.same_text-requires
same_text-requires c =
    let x = c.requires.1 in
    let f = c.loop-k.invariant c.requires.0 x in
    let a = f.first c.loop-k-test.true in
    let i = f.inside in
    let room = x.store-room in
    (omega arith, x.short c.loop-k.k a i)

pub returns-then-same_text : goal.returns-then-same_text
returns-then-same_text c words x =
    following_found c.args.table.now c.args.store.now c.args.buckets words c.args.text.now x c.loop-k.k c.loop-k-test.true (c.loop-k.invariant words x)
    (same_eq c.args.text.now (text_of c.args.store.now c.loop-k.k) (sym c.same_text.ensures ∙ c.if-same_text.true))

pub overflow_sub-k : goal.overflow_sub-k
overflow_sub-k c = (c.loop-k.invariant c.requires.0 c.requires.1).first c.loop-k-test.true

pub link_at-k-requires-in-loop-k : goal.link_at-k-requires-in-loop-k
link_at-k-requires-in-loop-k c =
    let x = c.requires.1 in
    let f = c.loop-k.invariant c.requires.0 x in
    let a = f.first c.loop-k-test.true in
    let i = f.inside in
    let room = x.link-room in
    (omega arith, omega arith, link_in_range c.args.table.now c.args.store.now c.args.buckets c.requires.0 x c.loop-k.k a i)

pub loop-k-smaller : goal.loop-k-smaller
loop-k-smaller c =
    following_falls c.args.table.now c.args.store.now c.args.buckets c.requires.0 c.args.text.now c.requires.1 c.loop-k.k c.link_at-k-in-loop-k.result
    c.loop-k-test.true (c.loop-k.invariant c.requires.0 c.requires.1) c.link_at-k-in-loop-k.ensures

pub loop-k-preserved : goal.loop-k-preserved
loop-k-preserved c words x =
    following_next c.args.table.now c.args.store.now c.args.buckets words c.args.text.now x c.loop-k.k c.link_at-k-in-loop-k.result
    c.loop-k-test.true (c.loop-k.invariant words x)
    (λ e.
    true≢false
    (sym (same_refl c.args.text.now)
    ∙ ap (λ (y : List ℕ). same_words c.args.text.now y) (sym e)
    ∙ sym c.same_text.ensures
    ∙ c.if-same_text.false))
    c.link_at-k-in-loop-k.ensures

pub returns : goal.returns
returns c words x = following_none c.args.table.now c.args.store.now c.args.buckets words c.args.text.now x c.loop-k.k c.loop-k-test.false (c.loop-k.invariant words x)
