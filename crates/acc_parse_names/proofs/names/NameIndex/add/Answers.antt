use Rattle.std.proofs.Common.{◌≡◌, List, ℕ, [], ◌∷◌, ◌++◌, length, true, false, arith, length-append, sym, ap, ◌∙◌, cond, Option, Some, Bor}
use Rattle.std.specs.Str.{bytes_eq}
use Rattle.std.proofs.lemmas.Map.Text.{btree_map_updates_str}
use Rattle.std.proofs.lemmas.List.{map_push, length-map}
use Rattle.acc_parse_names.specs.Names.{stands_in}
use Rattle.acc_parse_names.specs.Places.{place_of, texts}
use Rattle.acc_parse_names.proofs.Placed.{place_again, place_fresh}
use Rattle.acc_parse_names.proofs.names.NameIndex.add.Goals as goal

pub invariant_of-self-then-again : goal.invariant_of-self-then-again
invariant_of-self-then-again c =
    let text = c.as_slice-text.result.now in
    let old : List (List ℕ) = texts c.self.inside.names.items in
    let named : texts c.push.new.self.items ≡ old ++ text ∷ [] =
    rw c.in_ok-push.ensures.items (map_push _ c.self.inside.names.items c.as_slice-text.result) in
    let count : length old ≡ length c.self.inside.names.items = length-map c.self.inside.names.items (λ (n : Bor (List ℕ)). n.now) in
    let read : length c.deref.result.now ≡ length c.self.inside.names.items = ap length c.deref.ensures.value in
    let known : stands_in text old ≡ true = ap (stands_in text) c.self.view_is ∙ ap (λ n. stands_in n c.args.self.now)
    c.as_slice-text.ensures ∙ sym c.has-again.ensures ∙ c.if-again.true in
    record {
      tracks = λ x. c.self.invariant.tracks x ∙ sym (place_again x text old known) ∙ ap (place_of x) (sym named);
      few = omega (arith, ap length named, length-append old (text ∷ []), count, read, c.in_ok-place.ensures.room);
    }

pub invariant_of-self-in-Ok : goal.invariant_of-self-in-Ok
invariant_of-self-in-Ok c =
    let text = c.as_slice-text.result.now in
    let old : List (List ℕ) = texts c.self.inside.names.items in
    let named : texts c.push.new.self.items ≡ old ++ text ∷ [] =
    rw c.in_ok-push.ensures.items (map_push _ c.self.inside.names.items c.as_slice-text.result) in
    let count : length old ≡ length c.self.inside.names.items = length-map c.self.inside.names.items (λ (n : Bor (List ℕ)). n.now) in
    let read : length c.deref.result.now ≡ length c.self.inside.names.items = ap length c.deref.ensures.value in
    let len : c.in_ok-place.place ≡ length old = c.in_ok-place.ensures.place ∙ read ∙ sym count in
    let absent : stands_in text old ≡ false = ap (stands_in text) c.self.view_is ∙ ap (λ n. stands_in n c.args.self.now)
    c.as_slice-text.ensures ∙ sym c.has-again.ensures ∙ c.if-again.false in
    record {
      tracks = λ x. btree_map_updates_str text c.self.inside.places c.insert.new.self (Some c.in_ok-place.place) c.in-Ok.ensures.updates x ∙
          ap (λ (o : Option ℕ). cond (bytes_eq text x) (Some c.in_ok-place.place) o) (c.self.invariant.tracks x) ∙ ap
          (λ (n : ℕ). cond (bytes_eq text x) (Some n) (place_of x old)) len ∙ sym (place_fresh x text old absent) ∙ ap (place_of x)
          (sym named);
      few = omega (arith, ap length named, length-append old (text ∷ []), count, read, c.in_ok-place.ensures.room);
    }
