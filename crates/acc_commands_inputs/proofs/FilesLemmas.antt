-- Reading one file more.
use Rattle.std.proofs.Common.{◌≡◌, ◌<◌, ◌+◌, ℕ, List, [], ◌∷◌, ◌++◌, length, take, drop, map, get_or, Vec, Global, string_bytes, sym, ap}
use Rattle.std.proofs.Common.{◌∙◌, subst, take-append-drop, add-one, length-take-le, arith}
use Rattle.std.proofs.lemmas.List.{take_more, drop_more, map_push, map-append, length-map}
use Rattle.std.specs.Prelude.{String}
use Rattle.acc_io.specs.Counted.{after_given, after_files, after_refusal}
use Rattle.acc_io.specs.Shelves.{Told, IsFile, IsRefused}
use Rattle.acc_io.specs.declared.counts.Counts.{Counts}
use Rattle.acc_io.specs.declared.shelf.ShelfError.{ShelfError}
use Rattle.acc_commands_inputs.specs.Files.{AreFiles, IsFirstRefused}

-- what holds between two reads
pub record SoFar (Count Held Counted Given Files : Type 0) : Type 0 where
  pub count : Count
  pub held : Held
  pub counted : Counted
  pub given : Given
  pub files : Files

AreFiles-push : (held : List ℕ → Told) (names files : List (List ℕ)) (name file : List ℕ) → AreFiles held names files →
    IsFile (held name) file → AreFiles held (names ++ name ∷ []) (files ++ file ∷ [])
AreFiles-push held [] [] name file read last = (last, tt)
AreFiles-push held [] (f ∷ files) name file read last = absurd read
AreFiles-push held (n ∷ names) [] name file read last = absurd read
AreFiles-push held (n ∷ names) (f ∷ files) name file read last = (read.0, AreFiles-push held names files name file read.1 last)

-- one more of the names, and its file
pub AreFiles-more : (held held' : List ℕ → Told) (names : List (String Global)) (files files' : List (Vec ℕ Global)) (i : ℕ)
    (name : String Global) (file : Vec ℕ Global)
    → held' ≡ held → i < length names → name ≡ get_or names i name → files' ≡ files ++ file ∷ []
    → AreFiles held (map string_bytes (take i names)) (map (λ v. v.items) files) → IsFile (held' (string_bytes name)) file.items
    → AreFiles held (map string_bytes (take (i + 1) names)) (map (λ v. v.items) files')
AreFiles-more held held' names files files' i name file same lt is grown read last =
    let names_are : map string_bytes (take (i + 1) names) ≡ map string_bytes (take i names) ++ string_bytes name ∷ [] =
    ap (map string_bytes) (take_more names i name lt ∙ ap (λ x. take i names ++ x ∷ []) (sym is)) ∙ map_push string_bytes (take i names)
    name in
    let files_are : map (λ v. v.items) files' ≡ map (λ v. v.items) files ++ file.items ∷ [] =
    ap (map (λ v. v.items)) grown ∙ map_push (λ v. v.items) files file in
    let here : IsFile (held (string_bytes name)) file.items = subst (λ h. IsFile (h (string_bytes name)) file.items) same last in
    rw (names_are, files_are) (AreFiles-push held _ _ _ _ read here)

-- one more read, which gave its file
pub after_files-more : (n : ℕ) (first before now : Counts) → before ≡ after_files n first → now ≡ after_given before →
    now ≡ after_files (n + 1) first
after_files-more n first before now counted last = last ∙ ap after_given counted ∙ sym (ap (λ k. after_files k first) (add-one n))

-- the files before this one are given, and this one is refused
pub IsFirstRefused-here : (held held' : List ℕ → Told) (names : List (String Global)) (files : List (Vec ℕ Global)) (i : ℕ)
    (name : String Global) (e : ShelfError) (first before now : Counts)
    → held' ≡ held → before ≡ after_files i first → now ≡ after_refusal before e → i < length names → name ≡ get_or names i name
    → AreFiles held (map string_bytes (take i names)) (map (λ v. v.items) files) → IsRefused (held' (string_bytes name)) e
    → IsFirstRefused held first now (map string_bytes names) (string_bytes name) e
IsFirstRefused-here held held' names files i name e first before now same counted last lt is read refused =
    let split : names ≡ take i names ++ name ∷ drop (i + 1) names =
    sym (take-append-drop i names) ∙ ap (λ r. take i names ++ r) (drop_more names i name lt ∙ ap (λ x. x ∷ drop (i + 1) names) (sym is)) in
    let count : length (map string_bytes (take i names)) ≡ i =
    length-map (take i names) string_bytes ∙ length-take-le i names (omega arith) in
    record {
      before = map string_bytes (take i names);
      files = map (λ v. v.items) files;
      after = map string_bytes (drop (i + 1) names);
      place = ap (map string_bytes) split ∙ map-append string_bytes (take i names) (name ∷ drop (i + 1) names);
      read = read;
      counted = last ∙ ap (λ c. after_refusal c e) (counted ∙ sym (ap (λ k. after_files k first) count));
      refused = subst (λ h. IsRefused (h (string_bytes name)) e) same refused;
    }
