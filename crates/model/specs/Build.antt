-- From book and pack to a schedule. Document 01, "Refusals": "Order: 1, 2, 3; the default zone that won (4, 5), then rules in book order
-- (4, 5 each); build's 6"; schedule.rs `build`.
use Rattle.std.specs.Prelude.{Bool, true, false, not, List, [], ◌∷◌, ℕ, ◌+◌, ◌*◌, eqb, length, if◌then◌else◌}
use Rattle.std.proofs.Math.Option.{Option, none, some}
use Rattle.model.specs.Basic.{given, distinct}
use Rattle.model.specs.Instant.{epoch, second, day}
use Rattle.model.specs.Pack.{Named, pack_of, find}
use Rattle.model.specs.Tzif.{Zone, zone_of}
use Rattle.model.specs.Zone.{utc}
use Rattle.model.specs.Answer.{Answer, gives, ◌>>=◌, or_refuse}
use Rattle.model.specs.Book.{Body, default, work, pause, holidays, Entry, entries_of, within_limits, last_default}
use Rattle.model.specs.Blocks.{Block}
use Rattle.model.specs.Working.{Schedule, shift_rule, working}

-- the zone of a record's name: 4 where the pack hasn't got it, 5 where its file isn't usable; the place is "the book offset of the record"
unfoldable pub lookup : List Named → Entry → Answer Zone
lookup pack e = or_refuse 4 e.place (find e.name pack) >>= λ f. or_refuse 5 e.place (zone_of f)

-- "without one it is UTC"
abbrev pub default_zone : List Named → Option Entry → Answer Zone
default_zone pack none = gives utc
default_zone pack (some e) = lookup pack e

-- "Name length 0 in kinds 1 to 3 means the default zone."
abbrev pub rule_zone : List Named → Zone → Entry → Answer Zone
rule_zone pack z e = if eqb (length e.name) 0 then gives z else lookup pack e

-- no rules. "Search limit: 366 + 7 × the sum of each record's distinct dates, in days of 24 hours."
abbrev pub no_rules : Schedule
no_rules = record { work = []; breaks = []; holidays = []; limit = 366 * day }

-- the schedule with one record more, before the others
abbrev pub with_rule : Body → Zone → Schedule → Schedule
with_rule default z s = s
with_rule (work h) z s = record { work = shift_rule z h ∷ s.work; breaks = s.breaks; holidays = s.holidays; limit = s.limit }
with_rule (pause h) z s = record { work = s.work; breaks = shift_rule z h ∷ s.breaks; holidays = s.holidays; limit = s.limit }
with_rule (holidays l) z s =
    let d = distinct l in
    record { work = s.work; breaks = s.breaks; holidays = record { zone = z; dates = d } ∷ s.holidays; limit = s.limit + 7 * length d * day }

-- the zone that a record uses; a default zone's record uses none
abbrev pub zone_used : List Named → Zone → Entry → Body → Answer Zone
zone_used pack z e default = gives z
zone_used pack z e (work h) = rule_zone pack z e
zone_used pack z e (pause h) = rule_zone pack z e
zone_used pack z e (holidays l) = rule_zone pack z e

unfoldable pub rules_of : List Named → Zone → List Entry → Answer Schedule
rules_of pack z [] = gives no_rules
rules_of pack z (e ∷ l) = zone_used pack z e e.body >>= λ y. rules_of pack z l >>= λ s. gives (with_rule e.body y s)

abbrev pub is_none : List Block → Bool
is_none [] = true
is_none (b ∷ l) = false

-- "Build looks for work minus breaks, holidays ignored, in the 14 days from second 978,307,200."
unfoldable pub works_in_2001 : Schedule → Bool
works_in_2001 s =
    let lo = (epoch + 978307200) * second in
    let bare : Schedule = record { work = s.work; breaks = s.breaks; holidays = []; limit = s.limit } in
    not (is_none (working bare lo (lo + 14 * day)))

unfoldable pub build : List ℕ → List ℕ → Answer Schedule
build book pack =
    or_refuse 1 0 (entries_of book) >>= λ l.
    or_refuse 2 0 (given (within_limits l) l) >>= λ _.
    or_refuse 3 0 (pack_of pack) >>= λ p.
    default_zone p (last_default none l) >>= λ z.
    rules_of p z l >>= λ s.
    or_refuse 6 0 (given (works_in_2001 s) s)

unfoldable pub builds : Unit {0}
unfolding lookup rules_of works_in_2001 build
builds = tt
