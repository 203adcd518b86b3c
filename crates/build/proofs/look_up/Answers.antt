-- `build::look_up` meets its contract.
use mathlib.Core.Path.{refl}
use Rattle.build.proofs.Lookups.{no-zone, no-use, is_found}
use Rattle.build.proofs.look_up.Goals as goal

pub returns-in_default : goal.returns-in_default
returns-in_default c = no-zone _ _ _ c.requires c.part-name.ensures c.in_default.ensures

pub returns-in_default-open : goal.returns-in_default-open
returns-in_default-open c = no-use _ _ _ c.requires c.part-name.ensures c.in-Some.ensures c.«open».result c.«open».ensures.0 c.in_default-open.is

pub returns : goal.returns
returns c = is_found _ _ _ c.requires c.part-name.ensures c.in-Some.ensures c.«open».result c.«open».ensures.0 c.in-Some-open.is refl c.«open».ensures.1
