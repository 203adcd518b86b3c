-- What the program writes of the answers to what it reads, where both are known.
use Rattle.std.specs.Prelude.{◌≡◌, ℕ, List, ◌++◌, Option, IfSome}
use Rattle.std.specs.Io.KnownBytes.{Appends}
use Rattle.model.specs.Answer.{Answer}
use Rattle.model.specs.Working.{Schedule}
use Rattle.model.specs.Lines.{least_only, answered}
use Rattle.query_line.specs.Reading.{Bytes}
use Rattle.query_stream.specs.Streaming.{to_come}
use Rattle.query_stream.specs.declared.Progress.{Progress}

-- the text is the front of the whole
abbrev pub IsFront : List ℕ → List ℕ → Type 0
IsFront text whole = (rest : List ℕ) × (text ++ rest ≡ whole)

-- p became r by reading `input`: `text` was written, and what is still to come at r comes behind it
pub record Passes (a : Answer Schedule) (input : List ℕ) (old new : Option (List ℕ)) (p r : Progress) : Type 0 where
  pub bytes : Bytes input
  pub text : List ℕ
  pub written : Appends old new text
  pub same : (t : List ℕ) → Bytes t → text ++ to_come a r t ≡ to_come a p (input ++ t)

-- a write failed on the way: what was written is the front of what was to come at p
pub record PassFails (a : Answer Schedule) (input : List ℕ) (old new : Option (List ℕ)) (p : Progress) : Type 0 where
  pub bytes : Bytes input
  pub text : List ℕ
  pub written : Appends old new text
  pub front : (t : List ℕ) → Bytes t → IsFront text (to_come a p (input ++ t))

-- the answers to all that was left to read were written, and nothing else
abbrev pub AnswersAll : Answer Schedule → Option (List ℕ) → Option (List ℕ) → Option (List ℕ) → Type 0
AnswersAll a remaining old new = IfSome remaining (λ s. Appends old new (answered least_only a s))

-- reading or writing failed: the front of these answers was written, and nothing else
abbrev pub AnswersFront : Answer Schedule → Option (List ℕ) → Option (List ℕ) → Option (List ℕ) → Type 0
AnswersFront a remaining old new =
    IfSome remaining (λ s. Bytes s → (text : List ℕ) × Appends old new text × IsFront text (answered least_only a s))
