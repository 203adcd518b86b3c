-- What the answers of the code mean: a place stands for the text from there on.
use Rattle.std.specs.Prelude.{List, ℕ, drop}
use Rattle.std.specs.Prelude as std
use Rattle.std.proofs.Math.Option.{Option, none, some}
use Rattle.model.specs.Footer as model
use Rattle.zone_footer.specs.declared.Day.{Day}
use Rattle.zone_footer.specs.declared.Day.TheVariants.{Month, Julian, Plain}
use Rattle.zone_footer.specs.declared.ChangeRule.{ChangeRule}
use Rattle.zone_footer.specs.declared.Rules as code
use Rattle.zone_footer.specs.declared.Footer.{Footer}
use Rattle.zone_footer.specs.declared.Footer.TheVariants.{Empty, Fixed, Rules}

-- the day of the model that a day of the code is
abbrev pub day_is : Day → model.Day
day_is (Month m w d) = model.month m w d
day_is (Julian n) = model.julian n
day_is (Plain n) = model.plain n

-- the change of the model that a change of the code is
abbrev pub change_rule_is : ChangeRule → model.ChangeRule
change_rule_is t = record { day = day_is t.day; time = t.time }

-- a footer with daylight time
abbrev pub footer_rules : code.Rules → model.Footer
footer_rules r = model.rules r.std r.dst (change_rule_is r.start) (change_rule_is r.end)

-- the footer of the model that a footer of the code is
abbrev pub the_footer : Footer → model.Footer
the_footer Empty = model.empty
the_footer (Fixed o) = model.fixed o
the_footer (Rules r) = footer_rules r

-- the footer, if there is one
abbrev pub footer_from : std.Option Footer → Option model.Footer
footer_from (std.Some f) = some (the_footer f)
footer_from std.None = none

-- the day, and the text behind it
abbrev pub day_from : List ℕ → std.Option (Day × ℕ) → Option (model.Day × List ℕ)
day_from s (std.Some r) = some (day_is r.0, drop r.1 s)
day_from s std.None = none

-- the change, and the text behind it
abbrev pub change_rule_from : List ℕ → std.Option (ChangeRule × ℕ) → Option (model.ChangeRule × List ℕ)
change_rule_from s (std.Some r) = some (change_rule_is r.0, drop r.1 s)
change_rule_from s std.None = none

-- a part of the model's grammar that the code reads in a function of its own: the two changes, up to the end
unfoldable pub rules_text : ℕ → ℕ → ℕ → model.Parser model.Footer
rules_text version std dst = model.◌>>=◌ (model.change_rule_text version) (λ start. model.◌>>=◌ (model.byte 44) (λ _. model.◌>>=◌ (model.change_rule_text version) (λ end. model.◌>>=◌ model.at_end (λ done. model.only done (model.rules std dst start end)))))
