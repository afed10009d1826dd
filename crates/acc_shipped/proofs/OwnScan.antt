-- Words in which each `self` stands within the types, by going over them once.
use Rattle.std.proofs.Common.{◌≡◌, Bool, true, false, List, [], ◌∷◌, ◌++◌, refl, sym, ap, subst, ◌∙◌, append_assoc}
use Rattle.std.specs.Prelude.{not, ◌&&◌, ◌||◌}
use Rattle.std.specs.Cmp.{first_so, second_so}
use Rattle.std.proofs.lemmas.List.{append-nil}
use Rattle.acc_lex.specs.declared.words.Sign.TheVariants as sign
use Rattle.acc_lex.specs.declared.words.Word.{Word}
use Rattle.acc_lex.specs.declared.words.Word.TheVariants as word
use Rattle.acc_parse_syntax.specs.WordReaders.{comes}
use Rattle.acc_parse_syntax.proofs.WordLaws.{same_refl}
use Rattle.acc_parse_designs.specs.OwnWords.{EndsInTypes, OwnInTypes}
use Rattle.acc_parse_designs.proofs.OwnWords.{has, has_push, own_push, ends_in, nothing_own}

abbrev pub scan : Bool → Bool → Bool → List Word → Bool
scan began entry hint [] = true
scan began entry hint (w ∷ ws) =
    (not (comes sign.Oneself (w ∷ [])) || (began && not (entry || hint)))
    && scan (began || comes sign.Type (w ∷ [])) (entry || comes sign.Entry (w ∷ [])) (hint || comes sign.Hint (w ∷ [])) ws

inside : (c b e : Bool) → (not c || (b && not e)) ≡ true → c ≡ true → (b ≡ true) × (e ≡ false)
inside true true false h g = (refl, refl)
inside true true true h g = cc
inside true false e h g = cc
inside false b e h g = cc

pub own_scan : (front ws : List Word) → OwnInTypes front → scan (has sign.Type front) (has sign.Entry front) (has sign.Hint front) ws ≡ true
    → OwnInTypes (front ++ ws)
own_scan front [] own s = subst OwnInTypes (sym (append-nil front)) own
own_scan front (w ∷ ws) own s =
    let here = first_so (not (comes sign.Oneself (w ∷ [])) || (has sign.Type front && not (has sign.Entry front || has sign.Hint front)))
    (scan (has sign.Type front || comes sign.Type (w ∷ [])) (has sign.Entry front || comes sign.Entry (w ∷ []))
    (has sign.Hint front || comes sign.Hint (w ∷ [])) ws) s in
    let rest = second_so (not (comes sign.Oneself (w ∷ [])) || (has sign.Type front && not (has sign.Entry front || has sign.Hint front)))
    (scan (has sign.Type front || comes sign.Type (w ∷ [])) (has sign.Entry front || comes sign.Entry (w ∷ []))
    (has sign.Hint front || comes sign.Hint (w ∷ [])) ws) s in
    let ends = λ (e : w ≡ word.Sign sign.Oneself).
    let k = inside (comes sign.Oneself (w ∷ [])) (has sign.Type front) (has sign.Entry front || has sign.Hint front) here
    (ap (λ (z : Word). comes sign.Oneself (z ∷ [])) e ∙ same_refl sign.Oneself) in
    ends_in front k.0 k.1 in
    let more = front ++ (w ∷ []) in
    let later : scan (has sign.Type more) (has sign.Entry more) (has sign.Hint more) ws ≡ true =
    (λ i. scan (has_push sign.Type front w i) (has_push sign.Entry front w i) (has_push sign.Hint front w i) ws) ∙ rest in
    subst OwnInTypes (append_assoc front (w ∷ []) ws) (own_scan (front ++ (w ∷ [])) ws (own_push front w own ends) later)
