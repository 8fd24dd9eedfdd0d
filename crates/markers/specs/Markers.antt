-- Markers: the CHECK and BASE that a row's p, b, e and f become, and what such two numbers say. Assumes nothing.
use Rattle.std.specs.declared.option.Option.{Option}
use Rattle.std.specs.declared.option.Option.TheVariants.{Some, None}
use Rattle.std.specs.Prelude.{Bool, cond, ◌&&◌, ℤ, pos, ◌+ℤ◌, ◌-ℤ◌}
use Rattle.integer.specs.Integer.{twice, half, odd}
use Rattle.backoff.specs.Model.{in_probability, in_backoff}
use Rattle.backoff.specs.Store.{Look, broken, here}
use Rattle.markers.specs.declared.Entry.{Entry}

-- What a marker says. The paper's "sound": "the p and b read from it are in range"
pub data Marker : Type 0 where
  Sound : ℤ → ℤ → Bool → Bool → Marker
  Broken : Marker

-- the same of what the code returns
abbrev pub marker_in : Option Entry → Marker
marker_in (Some r) = Sound r.p r.b r.e r.f
marker_in None = Broken

-- "A row's marker has CHECK = p − 1", and "BASE becomes 4 × b + 2 × e + f"
abbrev pub marker_check : ℤ → ℤ
marker_check p = p -ℤ pos 1

abbrev pub marker_base : ℤ → Bool → Bool → ℤ
marker_base b e f = twice (twice b e) f

-- what a marker says, from its CHECK and BASE
unfoldable pub marker_of : ℤ → ℤ → Marker
marker_of check base =
    cond (in_probability (check +ℤ pos 1) && in_backoff (half (half base)))
    (Sound (check +ℤ pos 1) (half (half base)) (odd (half base)) (odd base))
    Broken

-- what is found where a walk ends at a node with this marker
abbrev pub look_marker : Marker → Look
look_marker (Sound p b e f) = here (record { p = p; b = b; e = e; f = f })
look_marker Broken = broken
