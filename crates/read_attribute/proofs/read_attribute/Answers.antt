use Rattle.read_repeats.specs.of_read_keys.declared.Role.TheVariants as role
use mathlib.Core.Path.{◌≡◌, sym, ap, subst, ◌∙◌}
use native.Mathlib.Omega.{arith}
use Rattle.read_repeats.specs.of_names.Keys.{key_of}
use Rattle.read_repeats.specs.inside.Words.{attribute_in}
use Rattle.read_role.specs.inside.Roles.{RoleFits}
use Rattle.read_repeats.specs.of_read_element.Attributes.{numbered}
use Rattle.read_attribute.proofs.Matching.{value-step, extra-step}
use Rattle.read_repeats.proofs.Keys.{part-told}
use Rattle.read_attribute.proofs.RoleKeys.{key-small, role-fits}
use Rattle.read_attribute.proofs.read_attribute.Goals as goal

pub returns-in-Extra : goal.returns-in-Extra
returns-in-Extra c =
    let at-wide2 = c in
    let at_wide = at-wide2 in
    let args = at_wide.args in
    let bytes_of = c.bytes_of-name in
    let wide3 = c.wide-3 in
    let wide4 = c.wide-4 in
    let bytes-of2 = c.bytes_of-value in
    let key-of = c.key_of-key in
    let role-of = c.role_of-role in
    let read-extra = c.read_extra in
    λ g rooms p used hd ro k.
    let s = args.source.now in
    let ek = part-told s bytes_of.ensures at_wide.wide.ensures at-wide2.wide-2.ensures in
    let ev = part-told s bytes-of2.ensures wide3.ensures wide4.ensures in
    let x = attribute_in args.words.now s in
    extra-step args.kind args.j x g rooms p used (key-of.ensures ∙ ap key_of (sym ek)) role-of.ensures read-extra.result
    c.in-Extra.is (read-extra.ensures x g rooms (numbered p args.j) used ek ev hd ro k) c.gave.ensures

pub read_value-requires : goal.read_value-requires
read_value-requires c =
    let at-key-of = c in
    let start = at-key-of in
    let q = start.requires.bounded in record { fill_in_bounds = q.0; text_len_bound = q.1.0; role_fits = subst RoleFits (sym c.role_of-role.ensures) (role-fits start.args.kind at-key-of.key_of-key.result) }

pub taken-requires : goal.taken-requires
taken-requires c =
    let pre = c.requires in
    let bytes_of = c.bytes_of-name in
    let e = c.key_of-key.ensures in
    let h = key-small bytes_of.result.now in
    record { key_bound = omega arith; j_bound = pre.j_bound }

pub returns : goal.returns
returns c =
    let at-wide2 = c in
    let at_wide = at-wide2 in
    let args = at_wide.args in
    let bytes_of = c.bytes_of-name in
    let wide3 = c.wide-3 in
    let wide4 = c.wide-4 in
    let bytes-of2 = c.bytes_of-value in
    let key-of = c.key_of-key in
    let role-of = c.role_of-role in
    let read-value = c.read_value in
    λ g rooms p used hd ro k.
    let s = args.source.now in
    let ek = part-told s bytes_of.ensures at_wide.wide.ensures at-wide2.wide-2.ensures in
    let ev = part-told s bytes-of2.ensures wide3.ensures wide4.ensures in
    let x = attribute_in args.words.now s in
    let ne : role-of.result ≡ role.Extra → ⊥ = λ q. c.in_default.not-Extra q in
    value-step args.kind args.j x g rooms p used (key-of.ensures ∙ ap key_of (sym ek)) role-of.ensures args.given read-value.result ne
    (read-value.ensures x g rooms (numbered p args.j) used args.kind key-of.result args.given.extras ne ev hd ro) c.taken.ensures
