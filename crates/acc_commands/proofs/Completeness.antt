-- What is accepted is told as accepted, and where each search closes a certificate is told.
use Rattle.std.proofs.Common.{◌≡◌, ℕ, true, List, [], None, Some, inl, inr, refl, sym, ap, subst, ◌∙◌}
use Rattle.std.specs.Prelude.{codes}
use Rattle.acc_base.specs.declared.designs.Design.{Design}
use Rattle.acc_base.specs.Lines.{line}
use Rattle.acc_commands_journals.proofs.Admitting.{accepted_reports}
use Rattle.acc_commands_journals.proofs.OneReported.{reports_once}
use Rattle.acc_commands_journals.specs.Admissions.{IsAcceptedWith}
use Rattle.acc_formed.specs.WellFormed.{IsWellFormed}
use Rattle.acc_oblig.specs.Laws.{drafts_of, sequents_of}
use Rattle.acc_oblig_goals.specs.Causes.{first_wide}
use Rattle.acc_commands_journals.specs.Texts.{IsDesignText}
use Rattle.acc_commands_files.specs.Provings.{AllClose, IsCertified}
use Rattle.acc_journalled.specs.declared.answers.Ending.{Ending}
use Rattle.acc_journalled.specs.declared.answers.Ending.TheVariants.{Done}
use Rattle.acc_commands_journals.specs.Text.{Said, Says}
use Rattle.acc_commands_files.specs.CheckFiles.{ChecksDesign, ChecksFiles, ending_by}
use Rattle.acc_commands_files.specs.ProveFiles.{EndsProving, ProvesFile}
use Rattle.acc_commands_journals.proofs.OneDesign.{one_design, formed_or_refused}

module _ (design certificate : List ℕ) (d : Design) (said : Said) (is_text : IsDesignText design d) (with_bytes : IsAcceptedWith d certificate)
  where
    of_design : ChecksDesign design certificate said → Says Done (line (codes "accepted")) said
    of_design k =
        let mine = subst (λ (e : Design). IsAcceptedWith e certificate) (one_design design d k.d is_text k.is_text) with_bytes in
        let same = reports_once k.d certificate k.accepted true said.text (line (codes "accepted")) k.reports
        (accepted_reports k.d certificate (line (codes "accepted")) mine refl) in
        (k.ending ∙ ap ending_by same.0, same.1, k.history)

    pub accepted_is_told : ChecksFiles design certificate said → Says Done (line (codes "accepted")) said
    accepted_is_told (inl k) = absurd (formed_or_refused design d said is_text with_bytes.accepts.formed k)
    accepted_is_told (inr k) = of_design k

module _ (design : List ℕ) (d : Design) (said : Said) (is_text : IsDesignText design d) (formed : IsWellFormed d)
    (narrow : first_wide (drafts_of d) ≡ None) (closes : AllClose d (sequents_of d)) where
  of_ended : (ending : Ending) (text : List ℕ) → EndsProving d ending text → (ending ≡ Done) × IsCertified d text
  of_ended ending text (inl h) = h
  of_ended ending text (inr (inl h)) = absurd (h.1.not_all closes)
  of_ended ending text (inr (inr h)) = (let e : None ≡ Some h.1.origin = sym narrow ∙ h.1.wide in absurd cc)

  pub closed_is_told : ProvesFile design said → (said.ending ≡ Done) × IsCertified d said.text × (said.history ≡ [])
  closed_is_told (inl h) = absurd (formed_or_refused design d said is_text formed h)
  closed_is_told (inr h) =
      let same : h.d ≡ d = one_design design h.d d h.is_text is_text in
      let ended = of_ended said.ending said.text (subst (λ (e : Design). EndsProving e said.ending said.text) same h.says.1) in
      (ended.0, ended.1, h.says.0)
