-- The built reading has for each symbol the lifted body of its site.
use Rattle.std.specs.Prelude.{◌≡◌, refl, ℕ, suc, ◌+◌, ◌≤◌, ◌<◌, Bool, true, false, ◌&&◌, ◌||◌, List, [], ◌∷◌, ◌++◌, length, map, IsTrue, ⊤, nat_lt, codes}
use Rattle.std.proofs.Common.{sym, ◌∙◌, ap, true≢false, arith}
use Rattle.std.proofs.lemmas.List.{append_assoc}
use Rattle.std.proofs.lemmas.List.Concat.{flat_map-append}
use Rattle.std.proofs.lemmas.List.Elements.{recursion_from_All}
use Rattle.std.specs.List.{AllByRecursion}
use Rattle.std.proofs.lemmas.Cmp.{nat_list_eq_equiv}
use Rattle.std.specs.Cmp.Lexicographic.{same_text as told_same}
use Rattle.qk_ast.specs.declared.Module.{Module}
use Rattle.qk_ast.specs.declared.Expr.{more_of-Expr}
use Rattle.qk_ast.specs.declared.Pattern.{Pattern}
use Rattle.qk_ast.specs.declared.Stmt.{Stmt, Row_of-Stmt, end_of-Stmt, more_of-Stmt, None', Some'}
use Rattle.qk_ast.specs.declared.Body.{Body, Block' as Body_block'}
use Rattle.qk_ast.specs.Characters.{is_small_letter, is_digit, every}
use Rattle.qk_ast.specs.Texts.{Text, same_text, decimal}
use Rattle.qk_ast.specs.Names.{scope_names, row_scope_names}
use Rattle.qk_ast.specs.Framework.{is_module_name}
use Rattle.qk_ast.specs.Arrows.{Found_arrow}
use Rattle.qk_ast.specs.Sources.{Named_module, module_of}
use Rattle.qk_ast.specs.Placing.{most_sites}
use Rattle.qk_ast.specs.Uses.{captures_of}
use Rattle.qk_sites.specs.Symbols.{IsSymbolOf, symbol_text}
use Rattle.qk_sites.specs.Laws.{OneSite}
use Rattle.qk_meaning.specs.Program.{Code}
use Rattle.qk_meaning.specs.Index.{Index, is_for_task}
use Rattle.qk_meaning.specs.Readings.{own_arrow, segment_code, built_program_of}
use Rattle.qk_lifting.specs.declared.SegmentKind.{SegmentKind}
use Rattle.qk_lifting.specs.References.{Reference}
use Rattle.qk_lifting.specs.Lifting.{block_lifted, body_lifted}
use Rattle.qk_lifting.specs.Numbering.{block_numbered, body_numbered}
use Rattle.qk_lifting.specs.Kinds.{item_kinds}
use Rattle.qk_lifting.specs.Segments.{Dollar_site, sites_after, dollar_arrows, dollar_sites, reference_at, with_captures, segment_of, segment_module, remainder, lifted_module}
use Rattle.qk_lifting.specs.Files.{named_segment, built_of, built_modules}
use Rattle.qk_lifting.specs.Built_reading.{NoneNamed, Apart, site_code, SymbolsAreSites}

-- ---- the captures of a segment's arrow are told by its first statement

row_lifted : (refer : ℕ → Reference) {m : _} (xs : Row_of-Stmt m) → row_scope_names (block_lifted refer xs) ≡ row_scope_names xs
row_lifted refer end_of-Stmt = refl
row_lifted refer (more_of-Stmt (Stmt.Const (Pattern.Scope names) x) rest) = refl
row_lifted refer (more_of-Stmt (Stmt.Const (Pattern.Name name) x) rest) = refl
row_lifted refer (more_of-Stmt (Stmt.Const (Pattern.Fields names) x) rest) = refl
row_lifted refer (more_of-Stmt (Stmt.Return' None') rest) = refl
row_lifted refer (more_of-Stmt (Stmt.Return' (Some' x)) rest) = refl
row_lifted refer (more_of-Stmt s rest) = refl

row_numbered : (n : ℕ) {m : _} (xs : Row_of-Stmt m) → row_scope_names (block_numbered n xs) ≡ row_scope_names xs
row_numbered n end_of-Stmt = refl
row_numbered n (more_of-Stmt (Stmt.Const (Pattern.Scope names) x) rest) = refl
row_numbered n (more_of-Stmt (Stmt.Const (Pattern.Name name) x) rest) = refl
row_numbered n (more_of-Stmt (Stmt.Const (Pattern.Fields names) x) rest) = refl
row_numbered n (more_of-Stmt (Stmt.Return' None') rest) = refl
row_numbered n (more_of-Stmt (Stmt.Return' (Some' x)) rest) = refl
row_numbered n (more_of-Stmt s rest) = refl

scopes_lifted : (refer : ℕ → Reference) (b : Body) → scope_names (body_lifted refer b) ≡ scope_names b
scopes_lifted refer (Body.Value' _ xs) = refl
scopes_lifted refer (Body_block' _ xs) = row_lifted refer xs

scopes_numbered : (n : ℕ) (b : Body) → scope_names (body_numbered n b) ≡ scope_names b
scopes_numbered n (Body.Value' _ xs) = refl
scopes_numbered n (Body_block' _ xs) = row_numbered n xs

scopes_with : (names : List Text) (b : Body) → scope_names b ≡ [] → scope_names (with_captures names b) ≡ names
scopes_with [] b h = h
scopes_with (name ∷ rest) (Body.Value' _ (more_of-Expr x _)) h = refl
scopes_with (name ∷ rest) (Body_block' _ xs) h = refl

pub own_scopes : (refer : ℕ → Reference) (a : Found_arrow) → scope_names a.body ≡ [] → scope_names (body_numbered 1 (with_captures (captures_of a) (body_lifted refer a.body))) ≡ captures_of a
own_scopes refer a h = scopes_numbered 1 (with_captures (captures_of a) (body_lifted refer a.body)) ∙ scopes_with (captures_of a) (body_lifted refer a.body) (scopes_lifted refer a.body ∙ h)

-- ---- names of modules are no symbols

not_both : (b : Bool) → (b && false) ≡ false
not_both true = refl
not_both false = refl

not_every : (f : ℕ → Bool) (xs : Text) (c : ℕ) (ys : Text) → f c ≡ false → every f (xs ++ c ∷ ys) ≡ false
not_every f [] c ys h = ap (λ b. b && every f ys) h
not_every f (x ∷ xs) c ys h = ap (λ b. f x && b) (not_every f xs c ys h) ∙ not_both (f x)

not_module : (file : Text) (number : ℕ) → is_module_name (symbol_text file number) ≡ false
not_module [] number = refl
not_module (c ∷ cs) number = ap (λ b. (is_small_letter c && b) && nat_lt (length (cs ++ (codes "_s" ++ decimal number))) 32) (not_every (λ d. is_small_letter d || is_digit d) cs 95 (115 ∷ decimal number) refl)
    ∙ ap (λ b. b && nat_lt (length (cs ++ (codes "_s" ++ decimal number))) 32) (not_both (is_small_letter c))

module_apart : (name file : Text) (number : ℕ) → IsTrue (is_module_name name) → same_text name (symbol_text file number) ≡ false
module_apart name file number h = by (same_text name (symbol_text file number)) refl
  where
    by : (b : Bool) → same_text name (symbol_text file number) ≡ b → b ≡ false
    by true e = absurd (true≢false (sym h ∙ ap is_module_name (told_same name (symbol_text file number) (sym e)) ∙ not_module file number))
    by false e = refl

-- ---- symbols of two sites differ

is_symbol_of : (name : Text) (number : ℕ) (text : Text) → IsTrue (is_module_name name) → number < most_sites → text ≡ symbol_text name (suc number) → IsSymbolOf name (suc number) text
is_symbol_of name number text h l e = record { named = h; first = omega (arith); last = omega (arith, l); spelled = e }

symbols_apart : OneSite → (a b : Text) (i j : ℕ) → IsTrue (is_module_name a) → IsTrue (is_module_name b) → i < most_sites → j < most_sites → (a ≡ b → suc i ≡ suc j → ⊥)
    → same_text (symbol_text a (suc i)) (symbol_text b (suc j)) ≡ false
symbols_apart one a b i j h g k l differ = by (same_text (symbol_text a (suc i)) (symbol_text b (suc j))) refl
  where
    by : (c : Bool) → same_text (symbol_text a (suc i)) (symbol_text b (suc j)) ≡ c → c ≡ false
    by true e = let both = one a b (suc i) (suc j) (symbol_text a (suc i)) (is_symbol_of a i _ h k refl) (is_symbol_of b j _ g l (told_same _ _ (sym e))) in absurd (differ both.0 both.1)
    by false e = refl

-- ---- modules by their names

none_both : (name : Text) (xs ys : List Named_module) → NoneNamed name xs → NoneNamed name ys → NoneNamed name (xs ++ ys)
none_both name [] ys h g = g
none_both name (x ∷ xs) ys h g = (h.0, none_both name xs ys h.1 g)

skipped : (name : Text) (xs ys : List Named_module) → NoneNamed name xs → module_of (xs ++ ys) name ≡ module_of ys name
skipped name [] ys h = refl
skipped name (x ∷ xs) ys h = ap (λ b. elim b [ true ↦ x.1 | false ↦ module_of (xs ++ ys) name ]) h.0 ∙ skipped name xs ys h.1

found : (name : Text) (code : Module) (rest : List Named_module) → module_of ((name, code) ∷ rest) name ≡ code
found name code rest = ap (λ b. elim b [ true ↦ code | false ↦ module_of rest name ]) (nat_list_eq_equiv.refl name)

-- ---- the segments of one module

abbrev segments : Text → Module → ℕ → List SegmentKind → List Found_arrow → List Named_module
segments file m n ks xs = map named_segment (map (segment_of file m) (sites_after file n ks xs))

segments_none : OneSite → (file : Text) (m : Module) (other : Text) (i : ℕ) → IsTrue (is_module_name file) → IsTrue (is_module_name other) → i < most_sites
    → (n : ℕ) (ks : List SegmentKind) (xs : List Found_arrow) → n + length xs ≤ most_sites → (file ≡ other → (k : ℕ) → n ≤ k → suc k ≡ suc i → ⊥) → NoneNamed (symbol_text other (suc i)) (segments file m n ks xs)
segments_none one file m other i h g l n [] xs most differ = tt
segments_none one file m other i h g l n (k ∷ ks) [] most differ = tt
segments_none one file m other i h g l n (k ∷ ks) (a ∷ xs) most differ = (
  symbols_apart one file other n i h g (omega (arith, most)) l (λ e. differ e n (omega (arith))),
  segments_none one file m other i h g l (suc n) ks xs (omega (arith, most)) (λ e j j'. differ e j (omega (arith, j'))),
)

-- from a number on no module has the symbol of a site of that file
abbrev NoneFrom : Text → ℕ → List Named_module → Type 0
NoneFrom file n modules = (k : ℕ) → n ≤ k → k < most_sites → NoneNamed (symbol_text file (suc k)) modules

abbrev first_or : Module → List Module → Module
first_or other [] = other
first_or other (m ∷ rest) = m

abbrev rest_of : List Module → List Module
rest_of [] = []
rest_of (m ∷ rest) = rest

abbrev read_in : List Named_module → Dollar_site → Module
read_in files site = module_of files site.symbol

in_segments : OneSite → (file : Text) (m : Module) → IsTrue (is_module_name file) → (pre post : List Named_module) (n : ℕ) (ks : List SegmentKind) (xs : List Found_arrow) → n + length xs ≤ most_sites → NoneFrom file n pre
    → map (read_in (pre ++ (segments file m n ks xs ++ post))) (sites_after file n ks xs) ≡ map (segment_module file m) (sites_after file n ks xs)
in_segments one file m h pre post n [] xs most none = refl
in_segments one file m h pre post n (k ∷ ks) [] most none = refl
in_segments one file m h pre post n (k ∷ ks) (a ∷ xs) most none =
    ap (λ c. c ∷ map (read_in (pre ++ (segments file m n (k ∷ ks) (a ∷ xs) ++ post))) (sites_after file (suc n) ks xs))
    (skipped (symbol_text file (suc n)) pre (segments file m n (k ∷ ks) (a ∷ xs) ++ post) (none n (omega (arith)) (omega (arith, most)))
    ∙ found (symbol_text file (suc n)) (segment_module file m (record { symbol = symbol_text file (suc n); kind = k; arrow = a })) (segments file m (suc n) ks xs ++ post))
    ∙ ap (λ cs. segment_module file m (record { symbol = symbol_text file (suc n); kind = k; arrow = a }) ∷ cs)
    (ap (λ files. map (read_in files) (sites_after file (suc n) ks xs)) (sym (append_assoc pre (named_segment (segment_of file m (record { symbol = symbol_text file (suc n); kind = k; arrow = a })) ∷ []) (segments file m (suc n) ks xs ++ post)))
    ∙ in_segments one file m h (pre ++ named_segment (segment_of file m (record { symbol = symbol_text file (suc n); kind = k; arrow = a })) ∷ []) post (suc n) ks xs (omega (arith, most))
    (λ j l below. none_both (symbol_text file (suc j)) pre _ (none j (omega (arith, l)) below) (symbols_apart one file file n j h h (omega (arith, most)) below (λ e f. omega (arith, l, f)), tt)))

-- ---- the modules of an application

abbrev Others : Text → List Named_module → Type 0
Others file [] = ⊤
Others file (k ∷ rest) = IsTrue (is_module_name k.0) × (length (dollar_arrows k.1) ≤ most_sites) × (same_text file k.0 ≡ false) × Others file rest

named_apart : (name : Text) (front : List Named_module) (m : Named_module) (behind : List Named_module) → NoneNamed name (front ++ m ∷ behind) → same_text m.0 name ≡ false
named_apart name [] m behind h = h.0
named_apart name (k ∷ front) m behind h = named_apart name front m behind h.1

others_before : (front : List Named_module) (m : Named_module) (behind : List Named_module) → Apart (front ++ m ∷ behind) → Others m.0 front
others_before [] m behind h = tt
others_before (k ∷ front) m behind h = (h.0, h.1, named_apart k.0 front m behind h.2, others_before front m behind h.3)

apart_from : (front : List Named_module) (m : Named_module) (behind : List Named_module) → Apart (front ++ m ∷ behind) → Apart (m ∷ behind)
apart_from [] m behind h = h
apart_from (k ∷ front) m behind h = apart_from front m behind h.3

differ : (a b : Text) → same_text a b ≡ false → b ≡ a → ⊥
differ a b h e = true≢false (sym (ap (same_text a) e ∙ nat_list_eq_equiv.refl a) ∙ h)

built_none : OneSite → (file : Text) (i : ℕ) → IsTrue (is_module_name file) → i < most_sites → (front : List Named_module) → Others file front → NoneNamed (symbol_text file (suc i)) (built_modules front)
built_none one file i h l [] others = tt
built_none one file i h l (k ∷ front) others =
    none_both (symbol_text file (suc i)) (built_of (lifted_module k)) (built_modules front)
    (module_apart k.0 file (suc i) others.0, segments_none one k.0 k.1 file i others.0 h l 0 (item_kinds k.1.items) (dollar_arrows k.1) (omega (arith, others.1)) (λ e j j' f. differ file k.0 others.2 e))
    (built_none one file i h l front others.3)

modules_read : OneSite → (front : List Named_module) (m : Named_module) (behind : List Named_module) → Apart (front ++ m ∷ behind)
    → map (read_in (built_modules (front ++ m ∷ behind))) (dollar_sites m.0 m.1) ≡ map (segment_module m.0 m.1) (dollar_sites m.0 m.1)
modules_read one front m behind h = let own = apart_from front m behind h in
    ap (λ files. map (read_in files) (dollar_sites m.0 m.1))
    (flat_map-append (λ k. built_of (lifted_module k)) front (m ∷ behind)
    ∙ sym (append_assoc (built_modules front) ((m.0, remainder m.0 m.1) ∷ []) (segments m.0 m.1 0 (item_kinds m.1.items) (dollar_arrows m.1) ++ built_modules behind)))
    ∙ in_segments one m.0 m.1 own.0 (built_modules front ++ (m.0, remainder m.0 m.1) ∷ []) (built_modules behind) 0 (item_kinds m.1.items) (dollar_arrows m.1) (omega (arith, own.1))
    (λ i l below. none_both (symbol_text m.0 (suc i)) (built_modules front) _ (built_none one m.0 i own.0 below front (others_before front m behind h)) (module_apart m.0 m.0 (suc i) own.0, tt))

-- ---- what is read is the code of the sites

abbrev code_of_module : Index → Text → Module → Code
code_of_module index symbol m = segment_code (is_for_task (index.kind_of symbol)) symbol (own_arrow m.items)

codes_read : (index : Index) (files : List Named_module) (code : Dollar_site → Module) (sites : List Dollar_site) → map (read_in files) sites ≡ map code sites
    → map (λ site. (built_program_of index files).lifted site.symbol) sites ≡ map (λ site. code_of_module index site.symbol (code site)) sites
codes_read index files code [] e = refl
codes_read index files code (site ∷ sites) e = ap (λ m. code_of_module index site.symbol m ∷ map (λ s. (built_program_of index files).lifted s.symbol) sites) (ap (first_or (code site)) e)
    ∙ ap (λ cs. code_of_module index site.symbol (code site) ∷ cs) (codes_read index files code sites (ap rest_of e))

sites_code : (index : Index) (m : Named_module) (n : ℕ) (ks : List SegmentKind) (xs : List Found_arrow) → AllByRecursion (λ a. scope_names a.body ≡ []) xs
    → map (λ site. code_of_module index site.symbol (segment_module m.0 m.1 site)) (sites_after m.0 n ks xs) ≡ map (site_code index m) (sites_after m.0 n ks xs)
sites_code index m n [] xs h = refl
sites_code index m n (k ∷ ks) [] h = refl
sites_code index m n (k ∷ ks) (a ∷ xs) h =
    ap (λ names. record {
      file = symbol_text m.0 (suc n);
      captures = names;
      task = is_for_task (index.kind_of (symbol_text m.0 (suc n)));
      params = a.params;
      body = body_numbered 1 (with_captures (captures_of a) (body_lifted (reference_at m.0 m.1) a.body));
    } ∷ map (λ site. code_of_module index site.symbol (segment_module m.0 m.1 site)) (sites_after m.0 (suc n) ks xs)) (own_scopes (reference_at m.0 m.1) a h.0)
    ∙ ap (λ cs. site_code index m (record { symbol = symbol_text m.0 (suc n); kind = k; arrow = a }) ∷ cs) (sites_code index m (suc n) ks xs h.1)

pub symbols_are_sites : OneSite → SymbolsAreSites
symbols_are_sites one index front m behind h plain =
    codes_read index (built_modules (front ++ m ∷ behind)) (segment_module m.0 m.1) (dollar_sites m.0 m.1) (modules_read one front m behind h)
    ∙ sites_code index m 0 (item_kinds m.1.items) (dollar_arrows m.1) (recursion_from_All (λ a. scope_names a.body ≡ []) (dollar_arrows m.1) plain)
