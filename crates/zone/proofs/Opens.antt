-- A file opened: its table, and the footer that its line spells; and UTC.
use Rattle.std.specs.Prelude.{Option, None, Some, IfSome}
use mathlib.Core.Path.{◌≡◌, sym, ◌∙◌}
use mathlib.Core.Option.{some}
use mathlib.Core.List.{List}
use Prim.Native.Nat.{ℕ}
use native.Mathlib.Omega.{arith}
use Rattle.model.specs.Footer as model
use Rattle.model.specs.Tzif.{version_of, zone_of}
use Rattle.model.specs.Zone.{utc}
use Rattle.laws_zone.specs.Zones.{ZoneFits, zone-fits}
use Rattle.zone_tzif.specs.declared.Layout.{Layout}
use Rattle.zone_tzif.specs.Places.{read_of, line_at}
use Rattle.zone_tzif.specs.Opened.{utc_layout, utc-opened, utc-zone}
use Rattle.zone_tzif.proofs.Laws.{opened, zone-read, zone-unusable}
use Rattle.zone_footer.specs.declared.Footer.{Footer}
use Rattle.zone_footer.specs.declared.Footer.TheVariants.{Empty}
use Rattle.zone_footer.specs.Parsed.{footer_from}
use Rattle.zone.specs.declared.Zone.{Zone}
use Rattle.zone.specs.Zones.{zone_is, ZoneOk, zone_read}

abbrev zone : Layout → Footer → Zone
zone l foot = record { table = l; footer = foot }

-- what `open` promises of its answer
abbrev Opens : List ℕ → Option Zone → Type 0
Opens f r = (zone_read f r ≡ zone_of f) × IfSome r (ZoneOk f)

pub open_none : (f : List ℕ) {r : Option Zone} → read_of f ≡ None → r ≡ None → Opens f r
open_none f e d = rw d (sym (zone-unusable f e), tt)

module _ (f : List ℕ) (l : Layout) (e : read_of f ≡ Some l) where
  whole : (foot : Footer) → zone_of f ≡ some (zone_is f (zone l foot)) → Opens f (Some (zone l foot))
  whole foot q = (sym q, record { table = opened f l e; fits = zone-fits f (zone_is f (zone l foot)) q })

  -- the line's bytes, read in the file's version
  module _ {v : ℕ} {s : List ℕ} (n : v ≡ version_of f) (p : s ≡ line_at f l) {r : Option Footer} (q : footer_from r ≡ model.footer_of v s) where
    pub open_is : (foot : Footer) → r ≡ Some foot → Opens f (Some (zone l foot))
    open_is foot d = whole foot (zone-read f l e ∙ rw (← n, ← p, ← q, d))

    pub open_bad : r ≡ None → {t : Option Zone} → t ≡ None → Opens f t
    open_bad d w = rw w (sym (zone-read f l e ∙ rw (← n, ← p, ← q, d)), tt)

utc-fits : ZoneFits utc
utc-fits = record { initial-fits = (omega arith, omega arith); changes-fit = tt; footer-fits = tt }

pub utc-is : (l : Layout) → l ≡ utc_layout → (f : List ℕ) → (zone_is f (zone l Empty) ≡ utc) × ZoneOk f (zone l Empty)
utc-is l e f =
    let z = utc-zone f in
    rw e (z, record { table = utc-opened f; fits = rw z utc-fits })
