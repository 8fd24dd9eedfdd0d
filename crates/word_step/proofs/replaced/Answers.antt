-- Times 1 and plus 0, or times 0 and plus 1.
use Rattle.std.specs.declared.option.Option.{Option}
use Rattle.std.specs.declared.option.Option.TheVariants.{Some, None}
use Rattle.std.specs.Option.{is_some}
use Rattle.std.proofs.Common.{rules, ◌≡◌, ℕ, Bool, true, false, cond, ◌+◌, ◌*◌, ◌-◌, ◌≤◌, ◌<◌, ap, ◌∙◌, arith, refl}
use mir.Val.{bool_byte}
use Rattle.backoff.specs.Limits.{unknown_word}
use Rattle.child_slots.specs.Children.{is_child}
use Rattle.word_step.proofs.replaced.Goals as goal

known-child : (o : Option ℕ) → is_some o ≡ is_child o
known-child (Some t) = refl
known-child None = refl

bit-few : (b : Bool) → bool_byte b ≤ 1
bit-few true = omega arith
bit-few false = omega arith

times-few : (w n : ℕ) (b : Bool) → w < n → w * bool_byte b < n
times-few w n true l = omega arith
times-few w n false l = omega arith

chosen : (w : ℕ) (b : Bool) → w * bool_byte b + (1 - bool_byte b) ≡ cond b w unknown_word
chosen w true = omega arith
chosen w false = omega arith

chosen_few : (w n : ℕ) (b : Bool) → w < n → 1 < n → w * bool_byte b + (1 - bool_byte b) < n
chosen_few w n true l m = omega arith
chosen_few w n false l m = omega arith

pub overflow_mul-result : goal.overflow_mul-result
overflow_mul-result c = rw c.from-known.ensures (let w : c.args.w < 4294967296 = search rules in omega (arith, times-few c.args.w 4294967296 c.is_some.result w))

pub overflow_add-result : goal.overflow_add-result
overflow_add-result c = rw c.from-known.ensures (let w : c.args.w < 4294967296 = search rules in omega (arith, chosen_few c.args.w 4294967296 c.is_some.result w (omega arith)))

pub overflow_sub-result : goal.overflow_sub-result
overflow_sub-result c = rw c.from-known.ensures (bit-few c.is_some.result)

pub returns : goal.returns
returns c = rw c.from-known.ensures (chosen c.args.w c.is_some.result ∙ ap (λ (b : Bool). cond b c.args.w unknown_word) (c.is_some.ensures ∙ known-child c.root_child.result ∙ ap (λ (k : Option ℕ). is_child k) c.root_child.ensures))
