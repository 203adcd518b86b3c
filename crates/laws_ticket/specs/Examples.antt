-- Examples of the ticket clock, by computing on the bytes. The book is document 01's office: Monday to Friday, 09:00 to 17:00 in UTC. Monday 2026-01-05.
use Rattle.std.specs.Prelude.{◌≡◌, refl, true, List, [], ◌∷◌, ◌++◌, ℕ, ◌+◌, ◌*◌, pos, neg_ℤ}
use Rattle.std.proofs.Math.Option.{none, some}
use Rattle.model.specs.Bytes.{hex, text}
use Rattle.model.specs.Instant.{epoch, second}
use Rattle.model.specs.Answer.{Answer, gives, refuses}
use Rattle.model.specs.Label.{office, no_zones, hour}
use Rattle.model.specs.All.{everything}
use Rattle.model_ticket.specs.History.{Action, start, hold, resume, mark, back, Command, answers_to, histories}
use Rattle.model_ticket.specs.Ticket.{new_ticket, command, tickets}
use Rattle.laws_ticket.specs.Agrees.{command_answers}

-- a command at an hour of a day of January
abbrev does : Action → ℕ → ℕ → Command
does a day h = record { action = a; seconds = hour day h; nanoseconds = pos 0 }

-- on Monday
abbrev monday : Action → ℕ → Command
monday a h = does a 5 h

-- the answers to these commands, given to a new ticket
abbrev answers : List Command → List (Answer ℕ)
answers cs = answers_to office no_zones cs

abbrev hours : ℕ → Answer ℕ
hours n = gives (n * 3600 * second)

-- ---- spells

pub record SpellsRead : Type 0 where
  -- working time only: from Monday 16:00 to Tuesday 10:00, and from Friday 16:00 to Monday 10:00
  pub over-night : answers (does start 5 16 ∷ does hold 6 10 ∷ []) ≡ hours 0 ∷ hours 2 ∷ []
  pub over-weekend : answers (does start 9 16 ∷ does hold 12 10 ∷ []) ≡ hours 0 ∷ hours 2 ∷ []
  -- the time on hold does not count
  pub on-hold : answers (monday start 9 ∷ monday hold 11 ∷ monday resume 14 ∷ monday hold 16 ∷ []) ≡ hours 0 ∷ hours 2 ∷ hours 2 ∷ hours 4 ∷ []
  -- with a mark and without
  pub marked : answers (monday start 9 ∷ monday (mark 0) 12 ∷ monday hold 15 ∷ []) ≡ hours 0 ∷ hours 3 ∷ hours 6 ∷ []
  pub unmarked : answers (monday start 9 ∷ monday hold 15 ∷ []) ≡ hours 0 ∷ hours 6 ∷ []

pub spells-read : SpellsRead
unfolding everything histories
spells-read = record { over-night = refl; over-weekend = refl; on-hold = refl; marked = refl; unmarked = refl }

-- ---- setting back

pub record SetBacks : Type 0 where
  -- to a mark set while running: what came after 10:00 is dropped, and the ticket runs on from 15:00
  pub to-running : answers (monday start 9 ∷ monday (mark 0) 10 ∷ monday hold 12 ∷ monday (back 0) 15 ∷ monday hold 16 ∷ [])
      ≡ hours 0 ∷ hours 1 ∷ hours 3 ∷ hours 1 ∷ hours 2 ∷ []
  -- to a mark set while held: it is held again, and may be resumed but not held
  pub to_held : answers (monday start 9 ∷ monday hold 10 ∷ monday (mark 0) 11 ∷ monday resume 12 ∷ monday (back 0) 15 ∷ monday resume 16 ∷ monday hold 17 ∷ [])
      ≡ hours 0 ∷ hours 1 ∷ hours 1 ∷ hours 1 ∷ hours 1 ∷ hours 1 ∷ hours 2 ∷ []
  pub held-again : answers (monday start 9 ∷ monday hold 10 ∷ monday (mark 0) 11 ∷ monday resume 12 ∷ monday (back 0) 15 ∷ monday hold 16 ∷ [])
      ≡ hours 0 ∷ hours 1 ∷ hours 1 ∷ hours 1 ∷ hours 1 ∷ refuses 14 0 ∷ []
  -- later marks are dropped too
  pub later-marks : answers (monday start 9 ∷ monday (mark 0) 10 ∷ monday (mark 1) 11 ∷ monday (back 0) 12 ∷ monday (back 1) 13 ∷ [])
      ≡ hours 0 ∷ hours 1 ∷ hours 2 ∷ hours 1 ∷ refuses 14 0 ∷ []
  -- earlier marks and the mark itself stay
  pub earlier-mark : answers (monday start 9 ∷ monday (mark 0) 10 ∷ monday (mark 1) 11 ∷ monday (back 1) 12 ∷ monday (back 0) 13 ∷ [])
      ≡ hours 0 ∷ hours 1 ∷ hours 2 ∷ hours 2 ∷ hours 1 ∷ []
  pub mark-stays : answers (monday start 9 ∷ monday (mark 0) 10 ∷ monday (back 0) 12 ∷ monday (back 0) 13 ∷ monday hold 14 ∷ [])
      ≡ hours 0 ∷ hours 1 ∷ hours 1 ∷ hours 1 ∷ hours 2 ∷ []
  -- a mark set again moves to 12:00
  pub mark-moves : answers (monday start 9 ∷ monday (mark 0) 10 ∷ monday (mark 0) 12 ∷ monday hold 13 ∷ monday (back 0) 14 ∷ [])
      ≡ hours 0 ∷ hours 1 ∷ hours 3 ∷ hours 4 ∷ hours 3 ∷ []
  -- its place at 10:00 is not there again after its place at 12:00 is dropped
  pub gone-for-good :
      answers (monday start 9 ∷ monday (mark 0) 10 ∷ monday (mark 1) 11 ∷ monday (mark 0) 12 ∷ monday (back 1) 13 ∷ monday (back 0) 14 ∷ [])
      ≡ hours 0 ∷ hours 1 ∷ hours 2 ∷ hours 3 ∷ hours 2 ∷ refuses 14 0 ∷ []

pub set-backs : SetBacks
unfolding everything histories
set-backs = record {
  to-running = refl;
  to_held = refl;
  held-again = refl;
  later-marks = refl;
  earlier-mark = refl;
  mark-stays = refl;
  mark-moves = refl;
  gone-for-good = refl;
}

-- ---- what is refused

-- instants that are refused: nanoseconds of a whole second, and the second after the last
abbrev bad_nanoseconds : Action → Command
bad_nanoseconds a = record { action = a; seconds = hour 5 9; nanoseconds = pos 1000000000 }

abbrev past_the_last : Action → Command
past_the_last a = record { action = a; seconds = pos 253402207201; nanoseconds = pos 0 }

pub record RefusedCommands : Type 0 where
  -- "Start comes first and once": a new ticket takes nothing else
  pub start_first :
      answers (monday hold 9 ∷ monday resume 9 ∷ monday (mark 0) 9 ∷ monday (back 0) 9 ∷ [])
      ≡ refuses 14 0 ∷ refuses 14 0 ∷ refuses 14 0 ∷ refuses 14 0 ∷ []
  pub start-once : answers (monday start 9 ∷ monday start 10 ∷ []) ≡ hours 0 ∷ refuses 14 0 ∷ []
  pub start-once-held : answers (monday start 9 ∷ monday hold 10 ∷ monday start 11 ∷ []) ≡ hours 0 ∷ hours 1 ∷ refuses 14 0 ∷ []
  -- "hold needs a running ticket, resume a held one"
  pub held-twice : answers (monday start 9 ∷ monday hold 10 ∷ monday hold 11 ∷ []) ≡ hours 0 ∷ hours 1 ∷ refuses 14 0 ∷ []
  pub resume-running : answers (monday start 9 ∷ monday resume 10 ∷ []) ≡ hours 0 ∷ refuses 14 0 ∷ []
  -- a mark that is not set
  pub not_set : answers (monday start 9 ∷ monday (mark 1) 10 ∷ monday (back 0) 11 ∷ []) ≡ hours 0 ∷ hours 1 ∷ refuses 14 0 ∷ []
  -- the names are 0 to 7
  pub name-7 : answers (monday start 9 ∷ monday (mark 7) 10 ∷ monday (back 7) 11 ∷ []) ≡ hours 0 ∷ hours 1 ∷ hours 1 ∷ []
  pub name-8 : answers (monday start 9 ∷ monday (mark 8) 10 ∷ monday (back 8) 11 ∷ []) ≡ hours 0 ∷ refuses 14 0 ∷ refuses 14 0 ∷ []
  -- an instant earlier than the last command's; the same instant is taken
  pub earlier : answers (monday start 10 ∷ monday hold 9 ∷ []) ≡ hours 0 ∷ refuses 13 0 ∷ []
  pub same-instant :
      answers (monday start 9 ∷ monday (mark 0) 9 ∷ monday hold 9 ∷ monday resume 9 ∷ monday (back 0) 9 ∷ [])
      ≡ hours 0 ∷ hours 0 ∷ hours 0 ∷ hours 0 ∷ hours 0 ∷ []
  -- "The last instant isn't set back": it is 15:00 and not the mark's 10:00
  pub earlier-than-back : answers (monday start 9 ∷ monday (mark 0) 10 ∷ monday (back 0) 15 ∷ monday hold 14 ∷ [])
      ≡ hours 0 ∷ hours 1 ∷ hours 1 ∷ refuses 13 0 ∷ []
  -- 8 comes before 13 and 14, and 13 before 14: a second start, at no instant and at an earlier one
  pub eight-first :
      answers (monday start 9 ∷ bad_nanoseconds start ∷ past_the_last start ∷ record { action = start; seconds = hour 5 8; nanoseconds = neg_ℤ (pos 1) } ∷ [])
      ≡ hours 0 ∷ refuses 8 0 ∷ refuses 8 0 ∷ refuses 8 0 ∷ []
  pub thirteen-first : answers (monday start 9 ∷ monday start 8 ∷ []) ≡ hours 0 ∷ refuses 13 0 ∷ []
  -- a refused command changes nothing: neither the state nor the last instant, which stays at 09:00
  pub nothing-changed :
      answers (monday start 9 ∷ monday start 10 ∷ monday hold 8 ∷ bad_nanoseconds hold ∷ monday resume 12 ∷ monday (mark 8) 13 ∷ monday hold 11 ∷ [])
      ≡ hours 0 ∷ refuses 14 0 ∷ refuses 13 0 ∷ refuses 8 0 ∷ refuses 14 0 ∷ refuses 14 0 ∷ hours 2 ∷ []
  pub nothing-given : answers (monday start 9 ∷ monday hold 11 ∷ []) ≡ hours 0 ∷ hours 2 ∷ []

pub refused-commands : RefusedCommands
unfolding everything histories
refused-commands = record {
  start_first = refl;
  start-once = refl;
  start-once-held = refl;
  held-twice = refl;
  resume-running = refl;
  not_set = refl;
  name-7 = refl;
  name-8 = refl;
  earlier = refl;
  same-instant = refl;
  earlier-than-back = refl;
  eight-first = refl;
  thirteen-first = refl;
  nothing-changed = refl;
  nothing-given = refl;
}

-- a book that names a zone which the pack does not have is refused with 4 at byte 12, and so is each command
abbrev without_zone : List ℕ
without_zone = hex 12 0x00000001_0000000C_00000005 ++ hex 2 0x0003 ++ text "UTC"

pub book-first : answers_to without_zone no_zones (monday start 9 ∷ past_the_last hold ∷ monday start 8 ∷ []) ≡ refuses 4 12 ∷ refuses 4 12 ∷ refuses 4 12 ∷ []
unfolding everything histories
book-first = refl

-- ---- the ticket that a caller keeps

-- Monday 09:00
abbrev nine : ℕ
nine = (epoch + 1767603600) * second

pub record KeptTickets : Type 0 where
  -- the first command, and the ticket that it makes
  pub started : command office no_zones (some new_ticket) start (hour 5 9) (pos 0)
      ≡ gives (record { time = 0; ticket = some (record { begun = true; running = true; last = nine; since = nine; done = 0; marks = [] }) })
  -- a ticket handed from command to command
  pub handed-on :
      command_answers office no_zones (some new_ticket) (monday start 9 ∷ monday (mark 0) 10 ∷ monday start 11 ∷ monday (back 0) 15 ∷ monday hold 16 ∷ [])
      ≡ hours 0 ∷ hours 1 ∷ refuses 14 0 ∷ hours 1 ∷ hours 2 ∷ []
  -- what is no ticket is refused with 14, after the book and after 8
  pub no-ticket : command office no_zones none start (hour 5 9) (pos 0) ≡ refuses 14 0
  pub no-ticket-no-instant : command office no_zones none start (hour 5 9) (pos 1000000000) ≡ refuses 8 0
  pub no-ticket-no-book : command without_zone no_zones none start (hour 5 9) (pos 1000000000) ≡ refuses 4 12

pub kept-tickets : KeptTickets
unfolding everything histories tickets command_answers
kept-tickets = record { started = refl; handed-on = refl; no-ticket = refl; no-ticket-no-instant = refl; no-ticket-no-book = refl }
