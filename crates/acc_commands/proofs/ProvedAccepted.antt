-- What `prove` says where it is done, `check` accepts.
use Rattle.std.proofs.Common.{◌≡◌, ℕ, List, inl, inr, sym, ◌∙◌}
use Rattle.std.specs.Prelude.{codes}
use Rattle.acc_base.specs.declared.designs.Design.{Design}
use Rattle.acc_base.specs.Lines.{line}
use Rattle.acc_commands_journals.specs.Admissions.{IsAcceptedWith}
use Rattle.acc_commands_files.specs.Provings.{IsCertified}
use Rattle.acc_journalled.specs.declared.answers.Ending.TheVariants.{Done, DesignRefused, Open}
use Rattle.acc_commands_journals.specs.Text.{Said, Says}
use Rattle.acc_commands_files.specs.CheckFiles.{ChecksFiles}
use Rattle.acc_commands_files.specs.ProveFiles.{EndsProving, ProvesFile}
use Rattle.acc_commands_journals.proofs.JournalEndings.{refusal_ends}
use Rattle.acc_commands.proofs.Completeness.{accepted_is_told}

accepted_with : (d : Design) (text : List ℕ) → IsCertified d text → IsAcceptedWith d text
accepted_with d text h = record { c = h.c; is_certificate = h.written.reads; accepts = h.accepts; sound = h.sound }

module _ (design : List ℕ) (proved checked : Said) (done : proved.ending ≡ Done) where
  of_ended : (d : Design) → EndsProving d proved.ending proved.text → IsCertified d proved.text
  of_ended d (inl h) = h.1
  of_ended d (inr (inl h)) = (let e : Done ≡ Open = sym done ∙ h.0 in absurd cc)
  of_ended d (inr (inr h)) = (let e : Done ≡ DesignRefused = sym done ∙ h.0 in absurd cc)

  of_files : ProvesFile design proved → ChecksFiles design proved.text checked → Says Done (line (codes "accepted")) checked
  of_files (inl h) k = (let e : Done ≡ DesignRefused = sym done ∙ refusal_ends design proved h in absurd cc)
  of_files (inr h) k =
      accepted_is_told design proved.text h.d checked h.is_text (accepted_with h.d proved.text (of_ended h.d h.says.1)) k

pub accepted_when_proved : (design : List ℕ) (proved checked : Said) → ProvesFile design proved → proved.ending ≡ Done
    → ChecksFiles design proved.text checked → Says Done (line (codes "accepted")) checked
accepted_when_proved design proved checked h done k = of_files design proved checked done h k
