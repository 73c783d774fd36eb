-- Reading a list of files after one was replaced or added.
use Rattle.std.proofs.Common.{◌≡◌, ◌≢◌, ℕ, suc, ◌+◌, ◌<◌, true, false, List, [], ◌∷◌, ◌++◌, length, get_or, set, take, drop, Option, Some, None, cond, refl, sym, ap, ◌∙◌, append-nil}
use Rattle.std.specs.Str.{bytes_eq}
use Rattle.std.proofs.lemmas.Bool.{false_from_ne_true, cond-true, cond-false}
use Rattle.std.proofs.lemmas.List.{set_split, set-get_or, take_more}
use Rattle.std.proofs.lemmas.Slice.Eq.{bytes_eq-Decides}
use Rattle.viz_base.specs.declared.memory_port.FileEntry.{FileEntry}
use Rattle.viz_base.specs.Entries.{file_at, IsFirst, Puts}

same_name : (xs ys : List ℕ) → xs ≡ ys → bytes_eq xs ys ≡ true
same_name xs ys e = (bytes_eq-Decides xs ys).1 e

other_name : (xs ys : List ℕ) → ys ≢ xs → bytes_eq xs ys ≡ false
other_name xs ys ne = false_from_ne_true (bytes_eq xs ys) (λ e. ne (sym ((bytes_eq-Decides xs ys).0 e)))

-- a front without the name is passed over
pub file_at-append_none : (front rest : List FileEntry) (name : List ℕ) → file_at front name ≡ None → file_at (front ++ rest) name ≡ file_at rest name
file_at-append_none [] rest name none = refl
file_at-append_none (file ∷ front) rest name none =
    elim (bytes_eq file.name name) as (λ b. cond b (Some file.bytes) (file_at front name) ≡ None → cond b (Some file.bytes) (file_at (front ++ rest) name) ≡ file_at rest name) [
      | true ↦ λ e. (cc)
      | false ↦ λ e. file_at-append_none front rest name e
    ] none

-- a file of another name is passed over
pub file_at-append_skip : (front : List FileEntry) (file : FileEntry) (rest : List FileEntry) (name : List ℕ) → bytes_eq file.name name ≡ false → file_at (front ++ file ∷ rest) name ≡ file_at (front ++ rest) name
file_at-append_skip [] file rest name skipped = cond-false (bytes_eq file.name name) (Some file.bytes) (file_at rest name) skipped
file_at-append_skip (first ∷ front) file rest name skipped =
    ap (λ (r : Option (List ℕ)). cond (bytes_eq first.name name) (Some first.bytes) r) (file_at-append_skip front file rest name skipped)

-- after a replacement the file has the new bytes
pub file_at-set : (files : List FileEntry) (i : ℕ) (file : FileEntry) (name : List ℕ) → i < length files → file_at (take i files) name ≡ None → file.name ≡ name → file_at (set files i file) name ≡ Some file.bytes
file_at-set files i file name within before named =
    ap (λ (fs : List FileEntry). file_at fs name) (set_split files i file within)
    ∙ file_at-append_none (take i files) (file ∷ drop (suc i) files) name before
    ∙ cond-true (bytes_eq file.name name) (Some file.bytes) (file_at (drop (suc i) files) name) (same_name file.name name named)

-- a replacement changes no other file
pub file_at-set_other : (files : List FileEntry) (i : ℕ) (file : FileEntry) (name other : List ℕ) → i < length files → ((d : FileEntry) → (get_or files i d).name ≡ name) → file.name ≡ name → other ≢ name → file_at (set files i file) other ≡ file_at files other
file_at-set_other files i file name other within named same ne =
    let old : FileEntry = get_or files i file in
    let skips : (f : FileEntry) → f.name ≡ name → file_at (set files i f) other ≡ file_at (take i files ++ drop (suc i) files) other = λ f e. ap (λ (fs : List FileEntry). file_at fs other) (set_split files i f within) ∙ file_at-append_skip (take i files) f (drop (suc i) files) other (other_name f.name other (λ h. ne (h ∙ e))) in
    skips file same
    ∙ sym (skips old (named file))
    ∙ ap (λ (fs : List FileEntry). file_at fs other) (set-get_or files i file)

-- replacing the first file of the name
pub Puts-set : (files : List FileEntry) (i : ℕ) (name bytes : List ℕ) → IsFirst files name i → Puts files (set files i (record { name = name; bytes = bytes })) name bytes
Puts-set files i name bytes first =
    let file : FileEntry = record { name = name; bytes = bytes } in
    record {
      put = file_at-set files i file name first.within first.before refl;
      others = λ other ne. file_at-set_other files i file name other first.within first.named refl ne;
    }

-- adding a file whose name no file has
pub Puts-push : (files : List FileEntry) (name bytes : List ℕ) → file_at files name ≡ None → Puts files (files ++ record { name = name; bytes = bytes } ∷ []) name bytes
Puts-push files name bytes none =
    let file : FileEntry = record { name = name; bytes = bytes } in
    record {
      put = file_at-append_none files (file ∷ []) name none ∙ cond-true (bytes_eq name name) (Some bytes) None (same_name name name refl);
      others = λ other ne. file_at-append_skip files file [] other (other_name name other ne) ∙ ap (λ (fs : List FileEntry). file_at fs other) (append-nil files);
    }

-- one more file of another name
pub file_at-take_more : (files : List FileEntry) (i : ℕ) (file : FileEntry) (name : List ℕ) → i < length files → file_at (take i files) name ≡ None → bytes_eq (get_or files i file).name name ≡ false → file_at (take (i + 1) files) name ≡ None
file_at-take_more files i file name within before skipped =
    ap (λ (fs : List FileEntry). file_at fs name) (take_more files i file within)
    ∙ file_at-append_none (take i files) (get_or files i file ∷ []) name before
    ∙ cond-false (bytes_eq (get_or files i file).name name) (Some (get_or files i file).bytes) None skipped
