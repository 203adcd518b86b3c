-- Which ends the clock change moved. Document 02, request 4: "Dispatchers print shift ends and want a mark where a local time was skipped or came twice."
use Rattle.std.specs.Prelude.{not, ◌&&◌, List, [], ◌∷◌, ◌++◌, map, ℕ, ◌+◌, ◌*◌, ◌-◌, ◌/◌, ◌%◌, min, max, leb, ltb, eqb, ℤ, pos, if◌then◌else◌}
use Rattle.model.specs.Basic.{any, filter, joined}
use Rattle.model.specs.Calendar.{last_day}
use Rattle.model.specs.Instant.{second, day_seconds, week, first_instant, last_instant, instant_of, instant}
use Rattle.model.specs.Offset.{offset_bias, greatest_offset}
use Rattle.model.specs.Tzif.{Zone}
use Rattle.model.specs.Zone.{offset_at, changes_in, reads, second_of, resolve}
use Rattle.model.specs.Answer.{Answer, gives, ◌>>=◌}
use Rattle.model.specs.Blocks.{Block}
use Rattle.model.specs.Working.{Rule, Schedule, holiday_rule, local_dates, start_of, end_of}
use Rattle.model.specs.Build.{build}
use Rattle.model.specs.Walk.{Way, on, back, reach, begun, period}
use Rattle.model.specs.Calls.{ends}
use Rattle.model.specs.ZoneCalls.{zone_in, day_given, time_given}

-- ---- marks

-- "the order is beyond, skipped, repeated, plain": of two marks the greater is kept
abbrev pub plain : ℕ
plain = 0

abbrev pub repeated : ℕ
repeated = 1

abbrev pub skipped : ℕ
skipped = 2

abbrev pub beyond : ℕ
beyond = 3

-- ---- the mark of a local time

-- the seconds that read l: as `second_of` looks for them
unfoldable pub readings : Zone → ℕ → List ℕ
readings z l =
    let a = l - (greatest_offset + 1) in
    filter (reads z l) (map (λ e. l - offset_at z e) (a ∷ changes_in z a l))

-- none is skipped, one is plain, two different ones are repeated
abbrev pub mark_of : List ℕ → ℕ
mark_of [] = skipped
mark_of (u ∷ l) = if any (λ v. not (eqb v u)) l then repeated else plain

-- a local time's: "plain, skipped, repeated or beyond range, and beyond range wins"
unfoldable pub resolve_mark : Zone → ℕ → ℕ → ℕ
resolve_mark z d time =
    let l = d * day_seconds + time / second + offset_bias in
    let t = second_of z l * second + time % second in
    if leb first_instant t && leb t last_instant then mark_of (readings z l) else beyond

-- ---- marked blocks

-- an end of a block: an instant and its mark
pub record Edge : Type 0 where
  pub at : ℕ
  pub mark : ℕ

abbrev pub edge : ℕ → ℕ → Edge
edge t m = record { at = t; mark = m }

-- "Blocks carry the mark of each end"
pub record MarkedBlock : Type 0 where
  pub start : Edge
  pub end : Edge

abbrev pub marked : Edge → Edge → MarkedBlock
marked s e = record { start = s; end = e }

-- [s, e) before the others, if it holds anything
abbrev pub put_marked : Edge → Edge → List MarkedBlock → List MarkedBlock
put_marked s e l = if ltb s.at e.at then marked s e ∷ l else l

-- ---- merging. "Merging keeps the mark of the end that survives; where both coincide the order is beyond, skipped, repeated, plain."

-- the earlier of two starts
abbrev pub earlier_start : Edge → Edge → Edge
earlier_start a b = if ltb a.at b.at then a else if ltb b.at a.at then b else edge a.at (max a.mark b.mark)

-- the later of two ends
abbrev pub later_end : Edge → Edge → Edge
later_end a b = if ltb b.at a.at then a else if ltb a.at b.at then b else edge a.at (max a.mark b.mark)

unfoldable pub insert_marked : MarkedBlock → List MarkedBlock → List MarkedBlock
insert_marked b [] = b ∷ []
insert_marked b (c ∷ l) = let r = insert_marked b l in if leb b.start.at c.start.at then b ∷ c ∷ l else c ∷ r

-- by their starts
unfoldable pub sorted_marked : List MarkedBlock → List MarkedBlock
sorted_marked [] = []
sorted_marked (b ∷ l) = insert_marked b (sorted_marked l)

unfoldable pub merged_marked_from : MarkedBlock → List MarkedBlock → List MarkedBlock
merged_marked_from b [] = b ∷ []
merged_marked_from b (c ∷ l) =
    let joins = merged_marked_from (marked (earlier_start b.start c.start) (later_end b.end c.end)) l in
    let apart = merged_marked_from c l in
    if leb c.start.at b.end.at then joins else b ∷ apart

-- of sorted blocks, those that overlap or touch made one
unfoldable pub merged_marked : List MarkedBlock → List MarkedBlock
merged_marked [] = []
merged_marked (b ∷ l) = merged_marked_from b l

unfoldable pub union_marked : List MarkedBlock → List MarkedBlock
union_marked l = merged_marked (sorted_marked l)

-- ---- subtracting. "Subtracting gives each cut end the mark of the gap's edge."

-- [s, e) less the gaps, which are sorted and apart; one that only touches cuts nothing
unfoldable pub cut_marked : Edge → Edge → List MarkedBlock → List MarkedBlock
cut_marked s e [] = put_marked s e []
cut_marked s e (g ∷ off) =
    let past = cut_marked s e off in
    let rest = cut_marked g.end e off in
    if leb g.end.at s.at then past else
    if leb e.at g.start.at then put_marked s e [] else put_marked s g.start rest

unfoldable pub subtract_marked : List MarkedBlock → List MarkedBlock → List MarkedBlock
subtract_marked [] off = []
subtract_marked (b ∷ l) off = cut_marked b.start b.end off ++ subtract_marked l off

-- ---- the blocks of a window

-- a rule's start on a date, with its mark
abbrev pub start_edge : Rule → ℕ → Edge
start_edge r d = edge (start_of r d) (resolve_mark r.zone d r.from)

-- "a shift's or holiday's end that lacks a next date is beyond range"
unfoldable pub mark_by_end : Rule → ℕ → ℕ
mark_by_end r d =
    if ltb r.from r.to then resolve_mark r.zone d r.to else
    if ltb d last_day then resolve_mark r.zone (d + 1) r.to else beyond

abbrev pub end_edge : Rule → ℕ → Edge
end_edge r d = edge (end_of r d) (mark_by_end r d)

-- what a rule takes of a date, whole
unfoldable pub whole_on : Rule → ℕ → List MarkedBlock
whole_on r d = put_marked (start_edge r d) (end_edge r d) []

-- the whole blocks of the dates that the window [lo, hi) looks at
unfoldable pub whole_of : ℕ → ℕ → Rule → List MarkedBlock
whole_of lo hi r = joined (map (whole_on r) (filter r.on (local_dates r.zone lo hi)))

unfoldable pub whole_of_all : ℕ → ℕ → List Rule → List MarkedBlock
whole_of_all lo hi l = joined (map (whole_of lo hi) l)

-- "an end moved by a window .. is plain"; an end that lies on the border is not moved
abbrev pub not_before : ℕ → Edge → Edge
not_before lo s = if ltb s.at lo then edge lo plain else s

abbrev pub not_behind : ℕ → Edge → Edge
not_behind hi e = if ltb hi e.at then edge hi plain else e

-- the blocks cut to the window [lo, hi)
unfoldable pub windowed : ℕ → ℕ → List MarkedBlock → List MarkedBlock
windowed lo hi [] = []
windowed lo hi (b ∷ l) = put_marked (not_before lo b.start) (not_behind hi b.end) (windowed lo hi l)

-- "Work merges, and breaks with holidays, before subtraction; windows cut last."
unfoldable pub marked_working : Schedule → ℕ → ℕ → List MarkedBlock
marked_working s lo hi =
    windowed lo hi (subtract_marked (union_marked (whole_of_all lo hi s.work)) (union_marked (whole_of_all lo hi (s.breaks ++ map holiday_rule s.holidays))))

-- ---- the period calls

-- the mark of the block that starts at t; plain where none does
unfoldable pub start_mark_at : ℕ → List MarkedBlock → ℕ
start_mark_at t [] = plain
start_mark_at t (b ∷ l) = let r = start_mark_at t l in if eqb b.start.at t then b.start.mark else r

-- the mark of the block that ends at t; plain where none does
unfoldable pub end_mark_at : ℕ → List MarkedBlock → ℕ
end_mark_at t [] = plain
end_mark_at t (b ∷ l) = let r = end_mark_at t l in if eqb b.end.at t then b.end.mark else r

-- where the window of the walk begins that a period from the distance x on begins in, and the one that a period up to x ends in
abbrev pub window_of_start : ℕ → ℕ
window_of_start x = x / week * week

abbrev pub window_of_end : ℕ → ℕ
window_of_end x = (begun x - 1) * week

-- the marked blocks of the window of a walk from t that begins at the distance x
unfoldable pub marked_ahead : Way → Schedule → ℕ → ℕ → List MarkedBlock
marked_ahead on s t x = marked_working s (t + x) (t + min (x + week) (reach on t))
marked_ahead back s t x = marked_working s (t - min (x + week) (reach back t)) (t - x)

-- "the period calls tell both": the marks of a period's start and end, each that of the block which has that end in its window of the walk. Where "the
-- search limit" moved an end no block has it, and it is plain
abbrev pub start_of_period : Way → Schedule → ℕ → Block → ℕ
start_of_period on s t p = start_mark_at (t + p.start) (marked_ahead on s t (window_of_start p.start))
start_of_period back s t p = start_mark_at (t - p.end) (marked_ahead back s t (window_of_end p.end))

abbrev pub end_of_period : Way → Schedule → ℕ → Block → ℕ
end_of_period on s t p = end_mark_at (t + p.end) (marked_ahead on s t (window_of_end p.end))
end_of_period back s t p = end_mark_at (t - p.start) (marked_ahead back s t (window_of_start p.start))

-- the period's start and end, each as seconds and nanoseconds, then the marks of both
unfoldable pub marked_period_call : Way → Schedule → ℤ → ℤ → Answer (List ℤ)
marked_period_call w s t₁ t₂ =
    instant_of t₁ t₂ >>= λ t.
    period w s t >>= λ p.
    gives (ends w t p ++ pos (start_of_period w s t p) ∷ pos (end_of_period w s t p) ∷ [])

-- the same from the bytes of book and pack: what `build` refuses comes first
abbrev pub next_marked : List ℕ → List ℕ → ℤ → ℤ → Answer (List ℤ)
next_marked book pack t₁ t₂ = build book pack >>= λ s. marked_period_call on s t₁ t₂

abbrev pub previous_marked : List ℕ → List ℕ → ℤ → ℤ → Answer (List ℤ)
previous_marked book pack t₁ t₂ = build book pack >>= λ s. marked_period_call back s t₁ t₂

-- ---- the call on a zone file

-- "Turning a local time into an instant now also tells plain, skipped, repeated or beyond range"
unfoldable pub resolve_marked_call : List ℕ → ℤ → ℤ → ℤ → ℤ → ℤ → Answer (List ℤ)
resolve_marked_call file year month day s n =
    zone_in file >>= λ z.
    day_given year month day >>= λ d.
    time_given s n >>= λ time.
    gives (instant (resolve z d time) ++ pos (resolve_mark z d time) ∷ [])

unfoldable pub marks : Unit {0}
unfolding readings resolve_mark insert_marked sorted_marked merged_marked_from merged_marked union_marked cut_marked subtract_marked mark_by_end whole_on whole_of whole_of_all windowed marked_working start_mark_at end_mark_at marked_ahead marked_period_call resolve_marked_call
marks = tt
