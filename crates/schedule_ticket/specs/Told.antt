-- What the answer to a command says: document 02's numbers for each case, as the definitions' answers list them.
use Rattle.std.specs.Prelude.{◌≡◌, true, List, ℕ, eqb, ℤ, if◌then◌else◌}
use Rattle.model.specs.Basic.{need}
use Rattle.model.specs.Instant.{last_instant}
use Rattle.model.specs.Answer.{Answer, gives, refuses, ◌>>=◌, or_refuse}
use Rattle.model.specs.Working as model
use Rattle.model_ticket.specs.Ticket.{Told, new_ticket, time_at, may_follow, next_ticket, told_by, command_call}
use Rattle.model_ticket.specs.Ticket as ticket
use Rattle.instant.specs.Instant.{nanos}
use Rattle.instant.specs.declared.Instant.{Instant}
use Rattle.rule.specs.declared.Schedule.{Schedule}
use Rattle.rule.specs.Rules.{schedule_is}
use Rattle.ticket_marks.specs.Marks.{is_within}
use Rattle.ticket.specs.declared.Ticket.{Ticket}
use Rattle.ticket.specs.declared.Action.{Action}
use Rattle.ticket.specs.Tickets.{action_is, standing, ticket_is, Begun}
use Rattle.schedule_ticket.specs.declared.TicketAnswer.{TicketAnswer}

-- the elapsed time and the ticket from then on; or a refusal's number and place
abbrev pub answer_is : TicketAnswer → Answer Told
answer_is r = if eqb r.number 0 then gives (record { time = nanos r.time; ticket = ticket_is r.ticket }) else refuses r.number r.place

-- r answers a command to the ticket k as a says
pub record AsTold (k : Ticket) (a : Answer Told) (r : TicketAnswer) : Type 0 where
  pub told : answer_is r ≡ a
  -- "a refused command changes no ticket"
  pub kept : (r.number ≡ 0 → ⊥) → r.ticket ≡ k
  -- a ticket that was accepted was started, and the time is no longer than the range
  pub begun : r.number ≡ 0 → Begun r.ticket
  pub within : is_within r.time last_instant ≡ true

-- r accepts a command, and tells x
pub record Accepts (x : Told) (r : TicketAnswer) : Type 0 where
  pub number : r.number ≡ 0
  pub time : nanos r.time ≡ x.time
  pub ticket : ticket_is r.ticket ≡ x.ticket
  pub begun : Begun r.ticket
  pub within : is_within r.time last_instant ≡ true

-- the time that has elapsed up to t, of a ticket that was started; it is no longer than what has passed since the first instant
pub record Elapsed (s : model.Schedule) (k : Ticket) (t r : Instant) : Type 0 where
  pub time : nanos r ≡ time_at s (standing k) (nanos t)
  pub within : is_within r (nanos t) ≡ true

-- what a command that may follow tells, at t
abbrev pub next_told : model.Schedule → Action → ℕ → ticket.Ticket → Told
next_told s a t k = told_by s (next_ticket (action_is a) t (time_at s k t) k) t

-- a command to a new ticket at t, which no schedule changes
abbrev pub TellsFirst : Ticket → Action → Instant → TicketAnswer → Type 0
TellsFirst k a t r = (s : model.Schedule) → AsTold k (or_refuse 14 0 (need (may_follow (action_is a) new_ticket)) >>= λ _. gives (next_told s a (nanos t) new_ticket)) r

-- a command to the value k, of a schedule that is built
abbrev pub command_with : List ℕ → List ℕ → Schedule → Ticket → Action → ℤ → ℤ → Answer Told
command_with book pack s k a t₁ t₂ = command_call (schedule_is book pack s) (ticket_is k) (action_is a) t₁ t₂
