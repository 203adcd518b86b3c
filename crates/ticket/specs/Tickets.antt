-- What a ticket by value means, and which values are tickets.
use Rattle.std.specs.Prelude.{◌≡◌, Bool, true, false, ◌&&◌, map, ℕ, ◌≤◌, leb, ltb, if◌then◌else◌}
use Rattle.std.proofs.Math.Option.{Option, some}
use Rattle.model.specs.Basic.{given, is_in}
use Rattle.model.specs.Instant.{second, first_second, last_second}
use Rattle.instant.specs.Instant.{nanos, InRange}
use Rattle.instant.specs.declared.Instant.{Instant}
use Rattle.model_ticket.specs.History as commands
use Rattle.model_ticket.specs.Ticket as model
use Rattle.ticket_marks.specs.Marks.{capacity, marks_in, mark_is, is_within, are_marks}
use Rattle.ticket.specs.declared.Ticket.{Ticket}
use Rattle.ticket.specs.declared.State.{State}
use Rattle.ticket.specs.declared.State.TheVariants.{New, Running, Held, Other}
use Rattle.ticket.specs.declared.Action.{Action}
use Rattle.ticket.specs.declared.Action.TheVariants as A

-- what a command asks for
abbrev pub action_is : Action → commands.Action
action_is A.Start = commands.start
action_is A.Hold = commands.hold
action_is A.Resume = commands.resume
action_is (A.Mark n) = commands.mark n
action_is (A.Back n) = commands.back n

-- the number of a state: 0 new, 1 running, 2 held; any other value has its own
abbrev pub state_number : State → ℕ
state_number New = 0
state_number Running = 1
state_number Held = 2
state_number (Other n) = n

-- one of the three states
abbrev pub is_state : State → Bool
is_state New = true
is_state Running = true
is_state Held = true
is_state (Other n) = false

abbrev pub is_new : State → Bool
is_new New = true
is_new Running = false
is_new Held = false
is_new (Other n) = false

abbrev pub is_running : State → Bool
is_running New = false
is_running Running = true
is_running Held = false
is_running (Other n) = false

-- a ticket that is not new: what its numbers say
abbrev pub standing : Ticket → model.Ticket
standing k = record {
  begun = true;
  running = is_running k.state;
  last = nanos k.last;
  since = nanos k.since;
  done = nanos k.done;
  marks = map mark_is (marks_in k.marks);
}

-- ---- which values are tickets

-- an instant of the range, its nanoseconds below a second
unfoldable pub is_instant : Instant → Bool
is_instant t = is_in first_second last_second t.sec && ltb t.ns second

-- what every command leaves: one of the states; instants of the range, in order; the time done within what has passed since the first instant; marks that a ticket
-- may have
unfoldable pub is_sound : Ticket → Bool
is_sound k =
    is_state k.state && (is_instant k.last && (is_instant k.since && (leb (nanos k.since) (nanos k.last) && (is_within k.done (nanos k.since) &&
    (leb k.marks.len capacity && are_marks (nanos k.last) (marks_in k.marks))))))

-- a value as a ticket of the definitions; none where it is no ticket. A new one has nothing but its state
unfoldable pub ticket_is : Ticket → Option model.Ticket
ticket_is k = if is_new k.state then some model.new_ticket else given (is_sound k) (standing k)

-- ---- what the functions promise

-- a ticket that was started
pub record Begun (k : Ticket) : Type 0 where
  pub not_new : is_new k.state ≡ false
  pub sound : is_sound k ≡ true

-- and whose last command was not after t, an instant of the range
pub record Goes (k : Ticket) (t : Instant) : Type 0 where
  pub begun : Begun k
  pub in-range : InRange t
  pub later : nanos k.last ≤ nanos t

-- r is started, and stands as j
pub record Becomes (r : Ticket) (j : model.Ticket) : Type 0 where
  pub begun : Begun r
  pub stands : standing r ≡ j
