-- Which text is a design's: one that is read to its end, into a tree without a fault.
use Rattle.std.proofs.Common.{◌≡◌, ℕ, List, [], ◌∷◌, true, false, refl, Ok, None, ◌∙◌}
use Rattle.std.proofs.lemmas.List.{append-nil}
use Rattle.acc_parse_designs.specs.DesignReaders.{design_at}
use Rattle.acc_parse_designs.proofs.OwnWords.{nothing_own}
use Rattle.acc_parse_designs.proofs.TypeLaws.{design_exact}
use Rattle.acc_lex.proofs.WholeTexts.{read_lines}
use Rattle.acc_lex.specs.Readings.{lines_at}
use Rattle.acc_lex.specs.Texts.{IsLexed}
use Rattle.acc_parse_names.specs.Faults.{first_fault_of}
use Rattle.acc_parse.specs.Texts.{IsDesignText, past_limits}
use Rattle.acc_parse_syntax.specs.Spelling.{spelled_design}
use Rattle.acc_shipped.specs.Texts.{lines_in, words_in, tree_in, design_in}
use Rattle.acc_shipped.proofs.OwnScan.{scan, own_scan}

pub record IsReadWhole (bytes : List ℕ) : Type 0 where
  pub lines : lines_at bytes ≡ Ok (lines_in bytes, [])
  pub tree : design_at (words_in bytes) ≡ Ok (tree_in bytes, [])
  pub names : first_fault_of (tree_in bytes) ≡ None
  pub limits : past_limits (tree_in bytes) ≡ []
  pub own : scan false false false (words_in bytes) ≡ true

module _ (bytes : List ℕ) (r : IsReadWhole bytes) where
  lexed : IsLexed bytes (words_in bytes)
  lexed =
      let k = read_lines bytes (lines_in bytes) [] r.lines in
      record { lines = lines_in bytes; fit = k.0; spelled = k.1; mean = refl }

  spelled : words_in bytes ≡ spelled_design (tree_in bytes)
  spelled = (design_exact.takes (words_in bytes) (tree_in bytes) [] r.tree).0 ∙ append-nil (spelled_design (tree_in bytes))

  pub is_design_text : IsDesignText bytes (design_in bytes)
  is_design_text = record {
    of = record {
      words = words_in bytes;
      lexed = lexed;
      tree = tree_in bytes;
      spelled = record { spelled = spelled; own = own_scan [] (words_in bytes) nothing_own r.own };
    };
    allowed = record { names = r.names; limits = r.limits };
    means = refl;
  }
