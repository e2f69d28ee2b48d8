-- Main is the only thread.
use Rattle.std.specs.Prelude.{◌≡◌, [], ◌∷◌, Some, None}
use Rattle.plevent.specs.declared.standing.Thread.{Thread}
use Rattle.plevent.specs.declared.standing.Standing.{Standing}
use Rattle.plevent.specs.Reading.{main}
