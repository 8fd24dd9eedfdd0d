-- What the code has of a word. Only private contracts cite it. Assumes nothing.
use Rattle.std.specs.Prelude.{◌≡◌, ℕ, pos}
use Rattle.backoff.specs.Model.{Model}
use Rattle.backoff.specs.Rule as rule
use Rattle.plain_history.specs.declared.Recent.{Recent}
use Rattle.plain_history.specs.History.{in_use, pushed}
use Rattle.plain.specs.declared.Scored.{Scored}
use Rattle.plain.specs.declared.Next.{Next}

-- the score s of the word v, with its length byte
pub record IsScored (s : rule.Score) (v : ℕ) (r : Scored) : Type 0 where
  pub points_are : r.points ≡ s.points
  pub byte_is : r.byte ≡ rule.length_byte s.matched v s.extended

-- the word w after the history r: its points and length byte, and the history of the word after it
pub record IsNext (M : Model) (most : ℕ) (r : Recent) (w : ℕ) (x : Next) : Type 0 where
  pub points_are : x.points ≡ (rule.text_rule M (in_use r) (rule.replaced M w)).points
  pub byte_is : x.byte ≡ rule.length_byte (rule.text_rule M (in_use r) (rule.replaced M w)).matched (rule.replaced M w) (rule.text_rule M (in_use r) (rule.replaced M w)).extended
  pub recent_is : x.recent ≡ pushed most r w (pos (rule.replaced M w))
