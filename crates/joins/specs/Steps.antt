-- One step up or down a walk. Assumes nothing.
use Rattle.std.specs.Prelude.{◌+◌, Bool, true, false, cond, not, Result}
use Rattle.std.specs.Bool.{beq}
use Rattle.walk.specs.Meaning.{Meaning}
use Rattle.walk.specs.Answers.{seeks, after_seek, backs, after_back}
use Rattle.walk.specs.declared.answers.Refusal.{Refusal}
use Rattle.joins.specs.declared.way.Way.{Way}
use Rattle.joins.specs.declared.way.Way.TheVariants.{Up, Down}

-- whether a step goes to the label before
abbrev pub goes_down : Way → Bool
goes_down Up = false
goes_down Down = true

-- the way that the right walk goes: the other one under a left row at which its rows come backward
abbrev pub right_way : Bool → Bool → Bool
right_way back down = not (beq back down)

-- `back`, or else `advance`
abbrev pub steps : Bool → Meaning → Result (Unit {0}) Refusal
steps down m = cond down (backs m) (seeks m (m.place + 1))

-- what the step leaves
abbrev pub after_step : Bool → Meaning → Meaning
after_step down m = cond down (after_back m) (after_seek m (m.place + 1))
