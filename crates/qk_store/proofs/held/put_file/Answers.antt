use Rattle.std.proofs.Common.{List, ℕ, String, Vec, string_bytes, bytes_eq, position, refl, sym, ◌∙◌, ap}
use Rattle.std.specs.declared.alloc.Global.{Global}
use Rattle.qk_store.specs.Held.{held}
use Rattle.qk_store.proofs.Entries.{file-set, file-push}
use Rattle.qk_store.proofs.held.put_file.Goals as goal

abbrev name_of : String Global × Vec ℕ Global → List ℕ
name_of entry = string_bytes entry.0

abbrev bytes_of : String Global × Vec ℕ Global → List ℕ
bytes_of entry = entry.1.items

pub returns-in-Some-clause-ok : goal.returns-in-Some-clause-ok
returns-in-Some-clause-ok c =
    file-set name_of bytes_of c.args.entries.now.items c.in-Some.at c.index_mut.result.now (c.index_mut.result.now.0, c.in_ok-bytes.bytes) c.args.name.now c.args.bytes.now
    (ap (position (λ entry. bytes_eq (name_of entry) c.args.name.now)) (sym c.deref.ensures.value) ∙ sym c.in-Some.ensures) c.index_mut.ensures.value refl c.in_ok-bytes.ensures.items

pub returns-in_ok-push-in-None-clause-ok : goal.returns-in_ok-push-in-None-clause-ok
returns-in_ok-push-in-None-clause-ok c =
    ap held c.in_ok-push-in-None.ensures.items
    ∙ file-push name_of bytes_of c.args.entries.now.items (c.in_ok-from_str-in-None.field-0, c.in_ok-bytes.bytes) c.args.name.now c.args.bytes.now
    (ap (position (λ entry. bytes_eq (name_of entry) c.args.name.now)) (sym c.deref.ensures.value) ∙ sym c.in-None.ensures) c.in_ok-from_str-in-None.ensures.ok c.in_ok-bytes.ensures.items
