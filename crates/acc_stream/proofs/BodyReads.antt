-- A body that is read item by item.
use Rattle.std.proofs.Common.{◌≡◌, ℕ, ◌<◌, ◌≤◌, List, [], ◌∷◌, ◌++◌, length, take, drop, All, Option, Some, None, refl, sym, ap, ◌∙◌}
use Rattle.std.proofs.Common.{append_assoc, arith, length-append, length-drop, take-append-drop}
use Rattle.std.specs.List.{flat_map}
use Rattle.std.proofs.lemmas.List.{flat_map_more, take_at, length-take, take_all}
use Rattle.std.proofs.lemmas.List.Elements.{All-nil, All-push}
use Rattle.acc_wal.specs.Items.{item_bytes, ItemFits, item_body, events_of, seals_of}
use Rattle.acc_wal.specs.Spelled.{item_at, StandsAt}
use Rattle.acc_wal.specs.declared.items.Item.{Item}
use Rattle.acc_wal.proofs.Readings.{IsBytes}
use Rattle.acc_wal.proofs.Taken.{IsBytes-drop}
use Rattle.acc_wal.proofs.Once.{item_long}
use Rattle.acc_wal.proofs.SpelledItems.{item_takes}
use Rattle.acc_wal.proofs.Bodies.{no_body}
use Rattle.acc_stream.specs.Reading.{IsBodyOf}

-- the items that were read up to that place
pub record ReadsTo (version : ℕ) (body : List ℕ) (at : ℕ) (items : List Item) : Type 0 where
  pub within : at ≤ length body
  pub fits : All (ItemFits version) items
  pub spelled : take at body ≡ item_body items

pub reads_none : (version : ℕ) (body : List ℕ) → ReadsTo version body 0 []
unfolding item_body
reads_none version body = record { within = omega arith; fits = All-nil (ItemFits version); spelled = refl }

module _ (version : ℕ) (body : List ℕ) (at : ℕ) (items : List Item) (r : ReadsTo version body at items) where
  parts : body ≡ item_body items ++ drop at body
  parts = sym (take-append-drop at body) ∙ ap (λ (l : List ℕ). l ++ drop at body) r.spelled

  long_is : length (item_body items) ≡ at
  long_is = omega (arith, ap length r.spelled, length-take at body, r.within)

  -- one more
  pub reads_more : (item : Item) (next : ℕ) → StandsAt version body at item next →
      ReadsTo version body next (items ++ item ∷ []) × (at < next)
  unfolding item_body
  reads_more item next s =
      let whole : body ≡ (flat_map item_bytes items ++ item_bytes item) ++ s.rest = parts
      ∙ ap (λ (l : List ℕ). flat_map item_bytes items ++ l) s.spelled
      ∙ sym (append_assoc (flat_map item_bytes items) (item_bytes item) s.rest) in
      let size : length (flat_map item_bytes items ++ item_bytes item) ≡ next = omega (
        arith,
        length-append (flat_map item_bytes items) (item_bytes item),
        long_is,
        s.next_is,
      ) in (
        record {
          within = omega (
            arith,
            ap length whole,
            length-append (flat_map item_bytes items ++ item_bytes item) s.rest,
            size,
          );
          fits = All-push (ItemFits version) items item r.fits s.fits;
          spelled = ap (take next) whole ∙ take_at (flat_map item_bytes items ++ item_bytes item) s.rest next size
              ∙ flat_map_more item_bytes [] items item;
        },
        omega (arith, s.next_is, item_long item),
      )

  -- all of it
  pub reads_all : length body ≤ at → 0 < length body → IsBodyOf version body items
  unfolding item_body
  reads_all all some =
      let spelled : body ≡ item_body items = sym (take_all at body all) ∙ r.spelled in record {
        some = λ none. omega (arith, ap length spelled, ap (λ (l : List Item). length (item_body l)) none, some);
        fits = r.fits;
        spelled = spelled;
      }

  -- where no item stands next, the body has no items
  pub reads_no_more : IsBytes body → at < length body →
      ((item : Item) (rest : List ℕ) → ItemFits version item → drop at body ≡ item_bytes item ++ rest → ⊥) →
      (others : List Item) → IsBodyOf version body others → ⊥
  reads_no_more bytes lt never others o =
      no_body body (drop at body) version [] (events_of items) [] (seals_of 0 items) (record {
        read = items;
        fits = r.fits;
        puts = record { events = refl; seals = refl };
        parts = parts;
        rest_fits = IsBytes-drop at body bytes;
      }) (λ none. omega (arith, ap length none, length-drop at body, lt)) (none_at (item_at version (drop at body)) refl) others o.fits
      o.spelled
    where
      none_at : (found : Option (Item × List ℕ)) → item_at version (drop at body) ≡ found → item_at version (drop at body) ≡ None
      none_at None is = is
      none_at (Some x) is =
          let t = item_takes version (drop at body) x (IsBytes-drop at body bytes) is in absurd (never x.0 x.1 t.fits t.parts)

-- no bytes spell no items
pub empty_body : (version : ℕ) (body : List ℕ) (others : List Item) → length body ≡ 0 → IsBodyOf version body others → ⊥
unfolding item_body
empty_body version body [] none o = o.some refl
empty_body version body (item ∷ others) none o =
    omega (arith, none, ap length o.spelled, item_long item, length-append (item_bytes item) (flat_map item_bytes others))
