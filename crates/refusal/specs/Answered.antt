-- The definitions' answer that a call's result stands for: what it gives, as f reads it, or the number and the place of its refusal.
use Rattle.std.specs.Prelude.{Result, Ok, Err}
use Rattle.model.specs.Answer.{Answer, gives, refuses}
use Rattle.refusal.specs.declared.Refused.{Refused}
use Rattle.refusal.specs.Refused.{number_of}

abbrev pub answer_of : {A B : Type 0} → (A → B) → Result A Refused → Answer B
answer_of f (Ok a) = gives (f a)
answer_of f (Err r) = refuses (number_of r.refusal) r.place
