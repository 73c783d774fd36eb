-- The words of a command are bytes without a gap, and numbers of 64 bits.
use Rattle.std.proofs.Common.{◌≡◌, ◌⊎◌, inl, inr, ℕ, ℤ, pos, ◌≤◌, true, ◌&&◌, ◌||◌, nat_le, List, [], ◌∷◌, map, length, take, Option, Some, None, refl, ap, eqb-true, arith}
use Rattle.std.specs.Prelude.{◌==◌, codes, int_le}
use Rattle.std.specs.List.{list_all, AllByRecursion}
use Rattle.std.proofs.lemmas.Bool.{le-leb, leb-true}
use Rattle.viz_kinds.specs.declared.param.Param.{Param}
use Rattle.viz_kinds.specs.declared.param.Param.TheVariants as param
use Rattle.viz_kinds.specs.declared.param.Value.{Value}
use Rattle.viz_kinds.specs.declared.param.Value.TheVariants.{Numbers, Text}
use Rattle.viz_kinds.specs.declared.range.Range.{Range}
use Rattle.viz_kinds.specs.Values.{first_number, last_number, numbers_of, fits_range}
use Rattle.viz_network.specs.declared.edit.Edit.{Edit}
use Rattle.viz_network.specs.declared.edit.Edit.TheVariants as change
use Rattle.viz_words.specs.declared.command.Command.{Command}
use Rattle.viz_words.specs.declared.command.Command.TheVariants as command
use Rattle.viz_words.specs.Names.{is_node_byte, is_file_byte, is_array_byte, is_file_name, begins_name}
use Rattle.viz_words.specs.Tables.{command_word}
use Rattle.viz_script.specs.Orders.{Asked, edit, edits, load, update, audit}
use Rattle.viz_script.specs.Lines.{Line, silent, begins_phase, begins_batch, ends_batch, asks}
use Rattle.viz_journal.proofs.SolidLemmas.{and-parts, or-parts, weaker, Solid, solid-node, solid-array}
use Rattle.viz_journal.proofs.AgainLemmas.{kind-solid, param-solid}
use Rattle.viz_script_law.specs.Tokens.{Token, exact, number, value_tokens, edit_tokens, command_tokens, line_tokens}
use Rattle.viz_script_law.specs.Fits.{FitsRange, is_text_of, FitsLineValue, FitsLineEdit, FitsCommand, FitsLine}

-- a word that can be spelled plainly: bytes without a gap, or a number of 64 bits
abbrev pub Fit : Token → Type 0
Fit (exact word) = Solid word
Fit (number n) = (int_le first_number n && int_le n last_number) ≡ true

-- ---- the words of a command fit

pub natural-fit : (n : ℕ) → n ≤ 9223372036854775807 → Fit (number (pos n))
natural-fit n h = le-leb n 9223372036854775807 h

numbers-fit : (ns : List ℤ) → fits_range first_number last_number ns ≡ true → AllByRecursion Fit (map number ns)
numbers-fit [] h = tt
numbers-fit (n ∷ ns) h =
    let parts = and-parts (int_le first_number n && int_le n last_number) (fits_range first_number last_number ns) h in
    (parts.0, numbers-fit ns parts.1)

text-fit : (p : Param) (text : List ℕ) → is_text_of p text ≡ true → Solid text
text-fit param.Array text h = solid-array text h
text-fit _ text h = solid-node text h

value-fit : (p : Param) (value : Value) → FitsLineValue p value → AllByRecursion Fit (value_tokens value)
value-fit p (Text text) f = (text-fit p text f.1, tt)
value-fit p (Numbers count items) f = by (numbers_of p) f
  where
    by : (r : Option Range) → FitsRange r count items → AllByRecursion Fit (map number (take count items))
    by None g = absurd g
    by (Some range) g = numbers-fit (take count items) g.each

pub command-fit : (c : Command) → Solid (command_word c)
command-fit command.Add = solid-array _ refl
command-fit command.Remove = solid-array _ refl
command-fit command.Connect = solid-array _ refl
command-fit command.Disconnect = solid-array _ refl
command-fit command.Set = solid-array _ refl
command-fit command.Load = solid-array _ refl
command-fit command.Update = solid-array _ refl
command-fit command.Audit = solid-array _ refl
command-fit command.Begin = solid-array _ refl
command-fit command.End = solid-array _ refl

file-byte : (b : ℕ) → is_file_byte b ≡ true → is_array_byte b ≡ true
file-byte b h = first (or-parts _ _ h)
  where
    line : (is_node_byte b ≡ true) ⊎ ((b == 45) ≡ true) → is_array_byte b ≡ true
    line (inl e) =
        let parts = and-parts (is_array_byte b) true (solid-node (b ∷ []) (ap (λ x. x && true) e)).each in
        parts.0
    line (inr e) = ap is_array_byte (eqb-true b 45 e)

    first : ((is_node_byte b || b == 45) ≡ true) ⊎ ((b == 46) ≡ true) → is_array_byte b ≡ true
    first (inl e) = line (or-parts _ _ e)
    first (inr e) = ap is_array_byte (eqb-true b 46 e)

file-fit : (word : List ℕ) → is_file_name word ≡ true → Solid word
file-fit word h =
    let parts = and-parts _ (begins_name word && list_all is_file_byte word) h in
    let long = and-parts (nat_le 1 (length word)) (nat_le (length word) 64) parts.0 in
    let bytes = and-parts (begins_name word) (list_all is_file_byte word) parts.1 in
    record { some = omega (arith, leb-true 1 (length word) long.0); each = weaker is_file_byte is_array_byte file-byte word bytes.1 }

edit-fit : (e : Edit) → FitsLineEdit e → AllByRecursion Fit (edit_tokens e)
edit-fit (change.Add kind node) f = (command-fit command.Add, (kind-solid kind, (solid-node node f, tt)))
edit-fit (change.Remove node) f = (command-fit command.Remove, (solid-node node f, tt))
edit-fit (change.Connect from to port) f =
    (command-fit command.Connect, (solid-node from f.0, (solid-node to f.1, (natural-fit port (omega (arith, f.2)), tt))))
edit-fit (change.Disconnect to port) f = (command-fit command.Disconnect, (solid-node to f.0, (natural-fit port (omega (arith, f.1)), tt)))
edit-fit (change.Set node param value) f = (command-fit command.Set, (solid-node node f.0, (param-solid param, value-fit param value f.1)))
edit-fit (change.Load node file) f = absurd f

pub asked-fit : (c : Asked) → FitsCommand c → AllByRecursion Fit (command_tokens c)
asked-fit (edit e) f = edit-fit e f
asked-fit (edits es) f = absurd f
asked-fit (load node file) f = (command-fit command.Load, (solid-node node f.0, (file-fit file f.1, tt)))
asked-fit (update node file pieces workers) f =
    (command-fit command.Update, (solid-node node f.0, (file-fit file f.1, (natural-fit pieces (omega (arith, f.2.1)), (natural-fit workers (omega (arith, f.2.3)), tt)))))
asked-fit (audit node pieces workers) f =
    (command-fit command.Audit, (solid-node node f.0, (natural-fit pieces (omega (arith, f.1.1)), (natural-fit workers (omega (arith, f.1.3)), tt))))

-- the words of a line that a script can have
pub line-fit : (actors : ℕ) (line : Line) → FitsLine actors line → AllByRecursion Fit (line_tokens line)
line-fit actors silent f = tt
line-fit actors begins_phase f = (solid-array (codes "phase") refl, tt)
line-fit actors (begins_batch actor) f = (natural-fit actor (omega (arith, f.1)), (command-fit command.Begin, tt))
line-fit actors (ends_batch actor) f = (natural-fit actor (omega (arith, f.1)), (command-fit command.End, tt))
line-fit actors (asks actor asked) f = (natural-fit actor (omega (arith, f.0.1)), asked-fit asked f.1)
