use Rattle.std.proofs.Common.{◌∙◌, sym, arith}
use Rattle.std.proofs.lemmas.Str.Pattern.{strip_prefix_char}
use Rattle.qk_sites.proofs.Spelled.{if_none, no_split, no_bar, no_s, by_parts, no_name, no_site, read_site, no_prefix, prefix}
use Rattle.qk_sites.proofs.reading.read_symbol.Goals as goal

pub returns-in_err-name-clause-none : goal.returns-in_err-name-clause-none
returns-in_err-name-clause-none c = if_none c.from_residual.result (no_bar c.args.text.now (no_split c.args.text.now c.split_once.result c.split_once.ensures.cases c.in_err-name.was))

pub returns-in_err-digits-clause-none : goal.returns-in_err-digits-clause-none
returns-in_err-digits-clause-none c = if_none c.from_residual-in_err-digits.result
    (no_s c.args.text.now c.split_once.result c.in_ok-name.name c.in_ok-name.rest c.split_once.ensures.cases c.in_ok-name.was
    (no_prefix c.in_ok-name.rest.now c.strip_prefix.result (strip_prefix_char 115 c.in_ok-name.rest.now c.strip_prefix.result c.strip_prefix.ensures.cases (omega arith)) c.in_err-digits.was))

pub returns-then-not-is_module_name-clause-none : goal.returns-then-not-is_module_name-clause-none
returns-then-not-is_module_name-clause-none c =
    let parts = by_parts c.args.text.now c.split_once.result c.in_ok-name.name c.in_ok-name.rest c.in_ok-digits.digits.now c.split_once.ensures.cases c.in_ok-name.was
    (prefix c.in_ok-name.rest.now c.strip_prefix.result c.in_ok-digits.digits (strip_prefix_char 115 c.in_ok-name.rest.now c.strip_prefix.result c.strip_prefix.ensures.cases (omega arith)) c.in_ok-digits.was) in
    no_name c.args.text.now c.in_ok-name.name.now c.in_ok-digits.digits.now parts.1 (sym c.if-not-is_module_name.ensures)

pub returns-in_err-site_number-clause-none : goal.returns-in_err-site_number-clause-none
returns-in_err-site_number-clause-none c =
    let parts = by_parts c.args.text.now c.split_once.result c.in_ok-name.name c.in_ok-name.rest c.in_ok-digits.digits.now c.split_once.ensures.cases c.in_ok-name.was
    (prefix c.in_ok-name.rest.now c.strip_prefix.result c.in_ok-digits.digits (strip_prefix_char 115 c.in_ok-name.rest.now c.strip_prefix.result c.strip_prefix.ensures.cases (omega arith)) c.in_ok-digits.was) in
    if_none c.from_residual-in_err-site_number.result (no_site c.args.text.now c.in_ok-name.name.now c.in_ok-digits.digits.now parts.1 (sym c.site_number.ensures ∙ c.in_err-site_number.was))

pub returns-clause-some : goal.returns-clause-some
returns-clause-some c =
    let parts = by_parts c.args.text.now c.split_once.result c.in_ok-name.name c.in_ok-name.rest c.in_ok-digits.digits.now c.split_once.ensures.cases c.in_ok-name.was
    (prefix c.in_ok-name.rest.now c.strip_prefix.result c.in_ok-digits.digits (strip_prefix_char 115 c.in_ok-name.rest.now c.strip_prefix.result c.strip_prefix.ensures.cases (omega arith)) c.in_ok-digits.was) in
    read_site c.args.text.now c.in_ok-name.name.now c.in_ok-digits.digits.now c.in_ok-site_number.field-0 parts.0 (sym c.if-not-is_module_name.ensures) (sym c.site_number.ensures ∙ c.in_ok-site_number.was)
