-- What `hardest` gives, as numbers in the order of document 02.
use Rattle.std.specs.Prelude.{List, [], ◌∷◌, ◌++◌, false, ℕ, ℤ}
use Rattle.std.proofs.Math.Option.{none}
use Rattle.model.specs.Answer.{Answer}
use Rattle.model.specs.Instant.{instant, duration}
use Rattle.model.specs.Calls.{Reply}
use Rattle.model.specs.Hardest.{hardest_call}
use Rattle.instant_signed.specs.Reads.{instant_numbers}
use Rattle.rule.specs.declared.Schedule.{Schedule}
use Rattle.rule.specs.Rules.{schedule_is}
use Rattle.schedule_hardest.specs.declared.HardestStretch.{HardestStretch}

-- the time's numbers and those of the start
abbrev pub hardest_numbers : HardestStretch → List ℤ
hardest_numbers h = h.time.secs ∷ h.time.nanos ∷ [] ++ instant_numbers h.start

-- a reply with these numbers; it tells no windows
abbrev pub stretch_reply : List ℤ → Reply
stretch_reply l = record { values = l; windows = none }

abbrev pub hardest_reply : HardestStretch → Reply
hardest_reply h = stretch_reply (hardest_numbers h)

-- so much time, from an instant on
abbrev pub stretch_numbers : ℕ → ℕ → List ℤ
stretch_numbers time start = duration (record { minus = false; size = time }) ++ instant start

-- `hardest` of a schedule that is built
abbrev pub hardest_with : List ℕ → List ℕ → Schedule → ℤ → ℤ → List ℤ → ℤ → Answer Reply
hardest_with book pack s t₁ t₂ log width = hardest_call (schedule_is book pack s) t₁ t₂ log width
