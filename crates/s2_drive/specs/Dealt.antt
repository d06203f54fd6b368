-- The replies by session, and the transcripts that they are.
use Rattle.std.specs.Prelude.{◌≡◌, ℕ, suc, ◌-◌, List, [], ◌∷◌, ◌++◌, length, map, nat_eq, set, slice_index_or, if◌then◌else◌}
use Rattle.s2_value.specs.declared.schemas.Schema.{Schema}
use Rattle.s2_model.specs.declared.scripts.Line.{Line}
use Rattle.s2_model.specs.declared.outcomes.Said.{Said}
use Rattle.s2_model.specs.declared.outcomes.Transcript.{Transcript}
use Rattle.s2_model.specs.History.{History}
use Rattle.s2_model.specs.Held.{sessions}
use Rattle.s2_model.specs.Driven.{Drives, said_by}
use Rattle.s2_drive.specs.Turns.{TakesTurn}

-- for each session its replies to the lines
abbrev pub dealt : List Line → List Said → List (List Said)
dealt lines saids = map (λ k. said_by k lines saids) sessions

-- a transcript for each list of replies that isn't empty, the sessions counted from n
abbrev pub spoken_from : ℕ → List (List Said) → List Transcript
spoken_from n [] = []
spoken_from n (said ∷ replies) = if nat_eq (length said) 0 then spoken_from (suc n) replies else record { session = n; faults = 0; said = said } ∷ spoken_from (suc n) replies

-- a line had its turn, and its reply came to those of its session
pub record Deals (schema : Schema) (line : Line) (before after : History) (replies replies' : List (List Said)) : Type 0 where
  pub said : Said
  pub turn : TakesTurn schema line said before after
  pub put : replies' ≡ set replies (line.session - 1) (slice_index_or replies (line.session - 1) [] ++ said ∷ [])

-- the lines were answered in turn from the empty history to this one, with these replies by session
pub record RunsTo (schema : Schema) (lines : List Line) (H : History) (replies : List (List Said)) : Type 0 where
  pub saids : List Said
  pub run : Drives schema [] lines saids H
  pub replies_are : replies ≡ dealt lines saids

-- the first of the lines were, and the rest is left
pub record RunsOn (schema : Schema) (lines rest : List Line) (H : History) (replies : List (List Said)) : Type 0 where
  pub done : List Line
  pub lines_are : lines ≡ done ++ rest
  pub so_far : RunsTo schema done H replies
