-- The line of a judgement.
use Rattle.std.specs.Prelude.{ℕ, List, ◌∷◌, ◌++◌, codes}
use Rattle.std.specs.Fmt.{decimal}
use Rattle.std.specs.List.{flat_map}
use Rattle.acc_base.specs.Lines.{line, spaced}
use Rattle.acc_audit_journal.specs.declared.journals.Judgement.{Judgement}
use Rattle.acc_audit_journal.specs.declared.journals.Judgement.TheVariants.{Clean, False, Large}

-- so many events, a transaction or 0, and the number of a clause there
abbrev pub place_text : ℕ → ℕ → ℕ → List ℕ
place_text place t clause = decimal place ++ (32 ∷ decimal t ++ (32 ∷ decimal clause))

abbrev pub judgement_text : Judgement → List ℕ
judgement_text (Clean events) = codes "clean events " ++ decimal events
judgement_text (False place t clause own) = codes "false " ++ (place_text place t clause ++ flat_map spaced own)
judgement_text (Large place t clause) = codes "large " ++ place_text place t clause

abbrev pub judgement_line : Judgement → List ℕ
judgement_line judgement = line (judgement_text judgement)
