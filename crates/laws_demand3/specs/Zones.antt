-- The zones of a book. Document 01: "A zone of it is one that a work, break or holiday record uses, by its name or as the default; the zone's
-- offsets are those it has at any instant, past both ends of the range too."
use Rattle.std.proofs.Math.Option.{none}
use Rattle.std.specs.Prelude.{List, [], ◌∷◌, ◌++◌, ℕ, ◌+◌, ◌≤◌}
use Rattle.model.specs.Basic.{joined}
use Rattle.model.specs.Pack.{Named, pack_of}
use Rattle.model.specs.Tzif.{Zone}
use Rattle.model.specs.Zone.{offset_at}
use Rattle.model.specs.Answer.{Answer, gives, refuses, ◌>>=◌, or_refuse}
use Rattle.model.specs.Book.{Body, default, work, pause, holidays, Entry, entries_of, last_default}
use Rattle.model.specs.Build.{default_zone, rule_zone}
use Rattle.laws_zone.specs.Sound.{dawn}
use Rattle.model.specs.Instant.{day_seconds}

-- an answer that is given, alone in a list
abbrev pub if_given : {A : Type 0} → Answer A → List A
if_given (gives a) = a ∷ []
if_given (refuses n p) = []

-- the zone that a record uses, where z is the default; a record that only sets the default uses none
abbrev pub used_by : List Named → Zone → Entry → Body → List Zone
used_by files z e default = []
used_by files z e (work h) = if_given (rule_zone files z e)
used_by files z e (pause h) = if_given (rule_zone files z e)
used_by files z e (holidays l) = if_given (rule_zone files z e)

unfoldable pub used_in : List Named → Zone → List Entry → List Zone
used_in files z [] = []
used_in files z (e ∷ l) = used_by files z e e.body ++ used_in files z l

unfoldable pub zones_of : List ℕ → List ℕ → List Zone
zones_of book pack =
    joined (if_given (
    or_refuse 1 0 (entries_of book) >>= λ l.
    or_refuse 3 0 (pack_of pack) >>= λ files.
    default_zone files (last_default none l) >>= λ z.
    gives (used_in files z l)))

-- No two of the zone's offsets are over 24 hours apart. Asked of the seconds from -10000-01-01 on, and no call looks at an earlier one: so this
-- asks no more than demand 3 does, which speaks of all instants.
abbrev pub WithinDay : Zone → Type 0
WithinDay z = (u v : ℕ) → dawn ≤ u → dawn ≤ v → offset_at z u ≤ offset_at z v + day_seconds
