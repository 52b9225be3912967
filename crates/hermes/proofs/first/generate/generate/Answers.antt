use Rattle.std.proofs.Common.{◌≡◌, List, ℕ, length, arith, ap, sym, subst, length-append}
use Rattle.std.specs.Prelude.{codes, All, flat_map}
use Rattle.std.specs.List.{concat}
use Rattle.hz_file.specs.Image.{IsShortText}
use Rattle.hz_ops.specs.Activations.{Module}
use Rattle.hz_ops.specs.Runs.{start_of}
use Rattle.hz_ops.proofs.Running.{ended_is_built}
use Rattle.hermes.specs.first.Saying.{lines_of, end_of}
use Rattle.hermes.specs.first.Scripts.{script}
use Rattle.hermes.specs.first.Generated.{argument_texts, script_code, script_texts}
use Rattle.hermes.proofs.first_texts.generating.CallCodes.{texts_made, code_made}
use Rattle.hermes.proofs.first_texts.generating.CallRuns.{script_says}
use Rattle.hermes.proofs.first_texts.generating.ScriptRooms.{script_room, some_code, calls_weight, texts_count}
use Rattle.hermes.proofs.first_texts.generating.ScriptRooms.{texts_units, script_short}
use Rattle.hermes.proofs.first.generate.generate.Goals as goal

pub returns-clause-says : goal.returns-clause-says
returns-clause-says c =
    let texts_are : c.push_calls.new.texts ≡ script_texts c.args.calls.now =
    texts_made _ _ _ c.in_ok-from_bytes.field-0 c.as_slice.result.now c.args.calls.now c.new-texts.ensures
    c.in_ok-from_bytes.ensures c.in_ok-push.ensures.ok c.as_slice.ensures c.in_ok-push_calls.ensures.texts in
    let code_is : c.push_return.new.code.items ≡ script_code c.args.calls.now =
    code_made _ _ c.in_ok-from_bytes.field-0 _ _ _ c.as_slice.result.now c.args.calls.now c.new-texts.ensures
    c.in_ok-push.ensures.ok c.new-code.ensures.items c.as_slice.ensures c.in_ok-push_calls.ensures.code
    c.in_ok-push_return.ensures in
    script_says c.args.calls.now c.push_return.new.code.items c.push_calls.new.texts c.requires.parts
    (omega (arith, calls_weight c.args.calls.now, c.requires.small)) code_is texts_are

pub returns-clause-built : goal.returns-clause-built
returns-clause-built c =
    let texts_are : c.push_calls.new.texts ≡ script_texts c.args.calls.now =
    texts_made _ _ _ c.in_ok-from_bytes.field-0 c.as_slice.result.now c.args.calls.now c.new-texts.ensures
    c.in_ok-from_bytes.ensures c.in_ok-push.ensures.ok c.as_slice.ensures c.in_ok-push_calls.ensures.texts in
    let code_is : c.push_return.new.code.items ≡ script_code c.args.calls.now =
    code_made _ _ c.in_ok-from_bytes.field-0 _ _ _ c.as_slice.result.now c.args.calls.now c.new-texts.ensures
    c.in_ok-push.ensures.ok c.new-code.ensures.items c.as_slice.ensures c.in_ok-push_calls.ensures.code
    c.in_ok-push_return.ensures in
    let m : Module = script c.push_return.new.code.items c.push_calls.new.texts 5 in
    ended_is_built m (start_of m) (lines_of c.args.calls.now) (end_of c.args.calls.now)
    (script_says c.args.calls.now c.push_return.new.code.items c.push_calls.new.texts c.requires.parts
    (omega (arith, calls_weight c.args.calls.now, c.requires.small)) code_is texts_are)

pub returns-clause-code : goal.returns-clause-code
returns-clause-code c =
    let code_is : c.push_return.new.code.items ≡ script_code c.args.calls.now =
    code_made _ _ c.in_ok-from_bytes.field-0 _ _ _ c.as_slice.result.now c.args.calls.now c.new-texts.ensures
    c.in_ok-push.ensures.ok c.new-code.ensures.items c.as_slice.ensures c.in_ok-push_calls.ensures.code
    c.in_ok-push_return.ensures in
    omega (arith, ap length code_is, some_code c.args.calls.now)

pub returns-clause-code_fits : goal.returns-clause-code_fits
returns-clause-code_fits c =
    let code_is : c.push_return.new.code.items ≡ script_code c.args.calls.now =
    code_made _ _ c.in_ok-from_bytes.field-0 _ _ _ c.as_slice.result.now c.args.calls.now c.new-texts.ensures
    c.in_ok-push.ensures.ok c.new-code.ensures.items c.as_slice.ensures c.in_ok-push_calls.ensures.code
    c.in_ok-push_return.ensures in
    omega (arith, ap length code_is, script_room c.args.calls.now, c.requires.small)

pub returns-clause-texts : goal.returns-clause-texts
returns-clause-texts c =
    let texts_are : c.push_calls.new.texts ≡ script_texts c.args.calls.now =
    texts_made _ _ _ c.in_ok-from_bytes.field-0 c.as_slice.result.now c.args.calls.now c.new-texts.ensures
    c.in_ok-from_bytes.ensures c.in_ok-push.ensures.ok c.as_slice.ensures c.in_ok-push_calls.ensures.texts in
    omega (arith, ap length texts_are, texts_count c.args.calls.now, calls_weight c.args.calls.now, c.requires.small)

pub returns-clause-short : goal.returns-clause-short
returns-clause-short c =
    let texts_are : c.push_calls.new.texts ≡ script_texts c.args.calls.now =
    texts_made _ _ _ c.in_ok-from_bytes.field-0 c.as_slice.result.now c.args.calls.now c.new-texts.ensures
    c.in_ok-from_bytes.ensures c.in_ok-push.ensures.ok c.as_slice.ensures c.in_ok-push_calls.ensures.texts in
    let P : List (List ℕ) → Type 0 = λ ts. All IsShortText ts in
    subst P (sym texts_are) (script_short c.args.calls.now c.requires.parts)

pub returns-clause-storage : goal.returns-clause-storage
returns-clause-storage c =
    let texts_are : c.push_calls.new.texts ≡ script_texts c.args.calls.now =
    texts_made _ _ _ c.in_ok-from_bytes.field-0 c.as_slice.result.now c.args.calls.now c.new-texts.ensures
    c.in_ok-from_bytes.ensures c.in_ok-push.ensures.ok c.as_slice.ensures c.in_ok-push_calls.ensures.texts in
    omega (
      arith,
      ap (λ ts. length (concat ts)) texts_are,
      length-append (codes "print") (concat (flat_map argument_texts c.args.calls.now)),
      texts_units c.args.calls.now,
      c.requires.small,
    )
