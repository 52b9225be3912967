-- Runs of the code of calls, and of a whole script.
use Rattle.std.proofs.Common.{◌≡◌, ℕ, ◌+◌, ◌^◌, ◌<◌, true, List, [], ◌∷◌, ◌++◌, length, refl, ap, ◌∙◌, sym, subst}
use Rattle.std.proofs.Common.{arith, append_assoc, append-nil, length-append, ℤ}
use Rattle.std.specs.Prelude.{nat_lt, Option, Some, None, option_map, option_and_then, slice_get, flat_map, codes}
use Rattle.std.specs.Option.{option_map_or}
use Rattle.std.specs.List.{list_all, join_with_byte}
use Rattle.std.specs.Fmt.{signed_decimal}
use Rattle.hz_value.specs.declared.leaving.Left.TheVariants as left
use Rattle.hz_ops.specs.declared.op.Op.TheVariants as op
use Rattle.hz_ops.specs.declared.op.Operand.TheVariants.{Register, Text, Count}
use Rattle.hz_ops.specs.Table.{kinds_of}
use Rattle.hz_ops.specs.Coding.{operands_fit}
use Rattle.hz_ops.specs.Contents.{Content, Undefined, Number, print_name, print_object, text_of, texts_of, line_of}
use Rattle.hz_ops.specs.Contents as content
use Rattle.hz_ops.specs.Activations.{Module}
use Rattle.hz_ops.specs.Runs.{Done, LeftFor, System, running, start_of, Ends}
use Rattle.hz_ops.proofs.Running.{prints, returns}
use Rattle.hz_ops.proofs.Rows.{returned, printed}
use Rattle.hz_ops.proofs.Fitting.{both}
use Rattle.hermes.specs.declared.first.language.Sum.{Sum}
use Rattle.hermes.specs.declared.first.language.Argument.{Argument}
use Rattle.hermes.specs.declared.first.language.Argument.TheVariants as argument
use Rattle.hermes.specs.first.Texts.{is_sum, is_argument}
use Rattle.hermes.specs.first.Saying.{sum_value, lines_of, end_of}
use Rattle.hermes.specs.first.Scripts.{script}
use Rattle.hermes.specs.first.Generated.{callee, this, argument_register, bytes_of, sum_code, argument_code}
use Rattle.hermes.specs.first.Generated.{opening_code, closing_code, call_code, argument_texts, calls_code, end_code}
use Rattle.hermes.specs.first.Generated.{script_code, script_texts}
use Rattle.hermes.proofs.first_texts.generating.Between.{at, Between, front_part, back_part, same_code, Leads, leads_on}
use Rattle.hermes.proofs.first_texts.generating.Between.{leads_by, Gives}
use Rattle.hermes.proofs.first_texts.generating.Instructions.{step_over, loads_undefined, loads_print, loads_text}
use Rattle.hermes.proofs.first_texts.generating.SumRuns.{five, HoldsSum, sum_runs}

-- a text that has one line as its content prints that line
one_argument : (x : Content) (line : List ℕ) → text_of x ≡ Some line → line_of (x ∷ []) ≡ Some line
one_argument x line e =
    let alone : List ℕ → Option (List (List ℕ)) = λ t. option_map (λ ts. t ∷ ts) (texts_of []) in
    ap (λ o. option_map (join_with_byte 32) (option_and_then alone o)) e

text_fits : (id : ℕ) → nat_lt id (2 ^ 64) ≡ true
    → operands_fit true (kinds_of op.LoadString) (Register argument_register ∷ Text id ∷ []) ≡ true
text_fits id low = grind (arith, low)

-- the text behind others
pub text_at : (front : List (List ℕ)) (text : List ℕ) (rest : List (List ℕ))
    → slice_get (front ++ text ∷ rest) (length front) ≡ Some text
text_at [] text rest = refl
text_at (x ∷ front) text rest = text_at front text rest

-- from this place on, behind any lines, the calls print theirs, and the run ends as they end
abbrev pub Onward : Module → List Argument → List ℕ → Type 0
Onward m calls place = (lines : List (List ℕ)) (s p f : Content)
    → Ends m (running lines (at place (five Undefined Undefined s p f))) (lines ++ lines_of calls) (end_of calls)

module _ (m : Module) (named : slice_get m.texts 0 ≡ Some print_name) where
  opening_runs : (lines : List (List ℕ)) (c t s p f : Content) (before end : List ℕ) → Between m before opening_code end
      → Leads m (running lines (at before (five c t s p f)))
      (running lines (at end (five print_object Undefined s p f)))
  opening_runs lines c t s p f before end b =
      let load : List ℕ = bytes_of op.LoadGlobal (Register callee ∷ Text 0 ∷ []) in
      let none : List ℕ = bytes_of op.LoadUndefined (Register this ∷ []) in
      leads_on m (running lines (at before (five c t s p f)))
      (running lines (at (before ++ load) (five print_object t s p f)))
      (running lines (at end (five print_object Undefined s p f)))
      (loads_print m lines before (before ++ load) (five c t s p f) callee 0 c (front_part m before load none end b)
      refl refl named)
      (loads_undefined m lines (before ++ load) end (five print_object t s p f) this t
      (back_part m before load none end b) refl refl)

  closing_runs : (lines : List (List ℕ)) (x p f : Content) (line : List ℕ) (before end : List ℕ) → text_of x ≡ Some line
      → Between m before closing_code end
      → Leads m (running lines (at before (five print_object Undefined x p f)))
      (running (lines ++ line ∷ []) (at end (five Undefined Undefined x p f)))
  closing_runs lines x p f line before end e b =
      leads_by m (running lines (at before (five print_object Undefined x p f)))
      (running (lines ++ line ∷ []) (at end (five Undefined Undefined x p f)))
      (prints m lines (at before (five print_object Undefined x p f)) (at end (five Undefined Undefined x p f)) line
      (step_over m before end op.Call
      (Register callee ∷ Register callee ∷ Register this ∷ Register argument_register ∷ Count 1 ∷ [])
      (five print_object Undefined x p f) b refl
      ∙ printed (length end) (at before (five print_object Undefined x p f)) callee callee this argument_register 1
      print_object Undefined x (x ∷ []) line refl refl refl refl refl (one_argument x line e)))

  end_runs : (lines : List (List ℕ)) (c t s p f : Content) (before end : List ℕ) → Between m before end_code end
      → Ends m (running lines (at before (five c t s p f))) lines Done
  end_runs lines c t s p f before end b =
      let none : List ℕ = bytes_of op.LoadUndefined (Register callee ∷ []) in
      let last : List ℕ = bytes_of op.Return (Register callee ∷ []) in
      let first : Leads m (running lines (at before (five c t s p f)))
      (running lines (at (before ++ none) (five Undefined t s p f))) =
      loads_undefined m lines before (before ++ none) (five c t s p f) callee c
      (front_part m before none last end b) refl refl in
      first.by lines Done
      (returns m lines (at (before ++ none) (five Undefined t s p f)) (at (before ++ none) (five Undefined t s p f))
      Undefined
      (step_over m (before ++ none) end op.Return (Register callee ∷ []) (five Undefined t s p f)
      (back_part m before none last end b) refl
      ∙ returned (at (before ++ none) (five Undefined t s p f)) callee Undefined refl))

  -- behind its line, a call's run goes on to the others
  goes_onward : (lines : List (List ℕ)) (line : List ℕ) (calls : List Argument) (s : System) (x p f : Content)
      (end : List ℕ) → Leads m s (running (lines ++ line ∷ []) (at end (five Undefined Undefined x p f)))
      → Onward m calls end → Ends m s (lines ++ line ∷ lines_of calls) (end_of calls)
  goes_onward lines line calls s x p f end leads onward =
      let P : List (List ℕ) → Type 0 =
      λ all. Ends m (running (lines ++ line ∷ []) (at end (five Undefined Undefined x p f))) all (end_of calls) in
      leads.by (lines ++ line ∷ lines_of calls) (end_of calls)
      (subst P (append_assoc lines (line ∷ []) (lines_of calls)) (onward (lines ++ line ∷ []) x p f))

  text_call : (text : List ℕ) (id : ℕ) (calls : List Argument) (lines : List (List ℕ)) (c t s p f : Content)
      (before end : List ℕ) → slice_get m.texts id ≡ Some text → nat_lt id (2 ^ 64) ≡ true
      → Between m before (call_code id (argument.Text text)) end → Onward m calls end
      → Ends m (running lines (at before (five c t s p f))) (lines ++ lines_of (argument.Text text ∷ calls))
      (end_of (argument.Text text ∷ calls))
  text_call text id calls lines c t s p f before end there low b onward =
      let load : List ℕ = argument_code id (argument.Text text) in
      let front : Between m before (opening_code ++ load) (before ++ (opening_code ++ load)) =
      front_part m before (opening_code ++ load) closing_code end b in
      let middle : List ℕ = before ++ (opening_code ++ load) in
      let start : System = running lines (at before (five c t s p f)) in
      let opened : System = running lines (at (before ++ opening_code) (five print_object Undefined s p f)) in
      let loaded : System = running lines (at middle (five print_object Undefined (content.Text text) p f)) in
      goes_onward lines text calls start (content.Text text) p f end
      (leads_on m start opened (running (lines ++ text ∷ [])
      (at end (five Undefined Undefined (content.Text text) p f)))
      (opening_runs lines c t s p f before (before ++ opening_code)
      (front_part m before opening_code load middle front))
      (leads_on m opened loaded (running (lines ++ text ∷ [])
      (at end (five Undefined Undefined (content.Text text) p f)))
      (loads_text m lines (before ++ opening_code) middle (five print_object Undefined s p f) argument_register id s
      text (back_part m before opening_code load middle front) (text_fits id low) refl there)
      (closing_runs lines (content.Text text) p f text middle end refl
      (back_part m before (opening_code ++ load) closing_code end b))))
      onward

  -- behind the code of a sum
  sum_closes : (o : Option ℤ) (calls : List Argument) (lines : List (List ℕ)) (s : System) (middle end : List ℕ)
      → Gives m lines s middle (HoldsSum print_object Undefined) o → Between m middle closing_code end
      → Onward m calls end → Ends m s
      (lines ++ option_map_or (λ line. line ∷ lines_of calls) (option_map signed_decimal o) [])
      (option_map_or (λ line. end_of calls) (option_map signed_decimal o) (LeftFor left.NotSafe))
  sum_closes None calls lines s middle end gives b onward =
      let P : List (List ℕ) → Type 0 = λ all. Ends m s all (LeftFor left.NotSafe) in
      subst P (sym (append-nil lines)) gives
  sum_closes (Some z) calls lines s middle end gives b onward =
      let p : Content = gives.holds.term_left in
      let f : Content = gives.holds.factor_left in
      let P : List Content → Type 0 = λ rs. Leads m s (running lines (at middle rs)) in
      goes_onward lines (signed_decimal z) calls s (Number z) p f end
      (leads_on m s (running lines (at middle (five print_object Undefined (Number z) p f)))
      (running (lines ++ signed_decimal z ∷ []) (at end (five Undefined Undefined (Number z) p f)))
      (subst P gives.holds.is gives.leads)
      (closing_runs lines (Number z) p f (signed_decimal z) middle end refl b))
      onward

  sum_call : (sum : Sum) (id : ℕ) (calls : List Argument) (lines : List (List ℕ)) (c t s p f : Content)
      (before end : List ℕ) → is_sum sum ≡ true → Between m before (call_code id (argument.Sum sum)) end
      → Onward m calls end → Ends m (running lines (at before (five c t s p f)))
      (lines ++ lines_of (argument.Sum sum ∷ calls)) (end_of (argument.Sum sum ∷ calls))
  sum_call sum id calls lines c t s p f before end all b onward =
      let load : List ℕ = sum_code sum in
      let front : Between m before (opening_code ++ load) (before ++ (opening_code ++ load)) =
      front_part m before (opening_code ++ load) closing_code end b in
      let middle : List ℕ = before ++ (opening_code ++ load) in
      let start : System = running lines (at before (five c t s p f)) in
      let opened : System = running lines (at (before ++ opening_code) (five print_object Undefined s p f)) in
      let first : Leads m start opened =
      opening_runs lines c t s p f before (before ++ opening_code)
      (front_part m before opening_code load middle front) in
      first.by (lines ++ lines_of (argument.Sum sum ∷ calls)) (end_of (argument.Sum sum ∷ calls))
      (sum_closes (sum_value sum) calls lines opened middle end
      (sum_runs m lines print_object Undefined sum s p f (before ++ opening_code) middle all
      (back_part m before opening_code load middle front))
      (back_part m before (opening_code ++ load) closing_code end b) onward)

  -- the code of the first call, and of the others
  this_call : (id : ℕ) (a : Argument) (calls : List Argument) (before end : List ℕ)
      → Between m before (calls_code id (a ∷ calls) ++ end_code) end
      → Between m before (call_code id a) (before ++ call_code id a)
  this_call id a calls before end b =
      let later : List ℕ = calls_code (id + length (argument_texts a)) calls in
      front_part m before (call_code id a) (later ++ end_code) end
      (same_code m before (call_code id a ++ later ++ end_code) (call_code id a ++ (later ++ end_code)) end
      (append_assoc (call_code id a) later end_code) b)

  other_calls : (front : List (List ℕ)) (a : Argument) (calls : List Argument) (before end : List ℕ)
      → Between m before (calls_code (length front) (a ∷ calls) ++ end_code) end
      → Between m (before ++ call_code (length front) a)
      (calls_code (length (front ++ argument_texts a)) calls ++ end_code) end
  other_calls front a calls before end b =
      let now : List ℕ = call_code (length front) a in
      let later : List ℕ = calls_code (length front + length (argument_texts a)) calls in
      let behind : Between m (before ++ now) (later ++ end_code) end =
      back_part m before now (later ++ end_code) end
      (same_code m before (now ++ later ++ end_code) (now ++ (later ++ end_code)) end
      (append_assoc now later end_code) b) in
      same_code m (before ++ now) (later ++ end_code)
      (calls_code (length (front ++ argument_texts a)) calls ++ end_code) end
      (ap (λ n. calls_code n calls ++ end_code) (sym (length-append front (argument_texts a)))) behind

  pub calls_run : (calls : List Argument) (front : List (List ℕ)) (lines : List (List ℕ)) (c t s p f : Content)
      (before end : List ℕ) → list_all is_argument calls ≡ true → m.texts ≡ front ++ flat_map argument_texts calls
      → length front + length calls < 2 ^ 64 → Between m before (calls_code (length front) calls ++ end_code) end
      → Ends m (running lines (at before (five c t s p f))) (lines ++ lines_of calls) (end_of calls)
  calls_run [] front lines c t s p f before end all texts few b =
      let P : List (List ℕ) → Type 0 = λ l. Ends m (running lines (at before (five c t s p f))) l Done in
      subst P (sym (append-nil lines)) (end_runs lines c t s p f before end b)
  calls_run (argument.Text text ∷ calls) front lines c t s p f before end all texts few b =
      let here : (is_argument (argument.Text text) ≡ true) × (list_all is_argument calls ≡ true) =
      both (is_argument (argument.Text text)) (list_all is_argument calls) all in
      let Found : List (List ℕ) → Type 0 = λ ts. slice_get ts (length front) ≡ Some text in
      let low : nat_lt (length front) (2 ^ 64) ≡ true = grind (arith, few) in
      text_call text (length front) calls lines c t s p f before
      (before ++ call_code (length front) (argument.Text text))
      (subst Found (sym texts) (text_at front text (flat_map argument_texts calls))) low
      (this_call (length front) (argument.Text text) calls before end b)
      (λ printed x q g. calls_run calls (front ++ text ∷ []) printed Undefined Undefined x q g
      (before ++ call_code (length front) (argument.Text text)) end here.1
      (texts ∙ sym (append_assoc front (text ∷ []) (flat_map argument_texts calls)))
      (omega (arith, few, length-append front (text ∷ [])))
      (other_calls front (argument.Text text) calls before end b))
  calls_run (argument.Sum sum ∷ calls) front lines c t s p f before end all texts few b =
      let here : (is_argument (argument.Sum sum) ≡ true) × (list_all is_argument calls ≡ true) =
      both (is_argument (argument.Sum sum)) (list_all is_argument calls) all in
      sum_call sum (length front) calls lines c t s p f before (before ++ call_code (length front) (argument.Sum sum))
      here.0 (this_call (length front) (argument.Sum sum) calls before end b)
      (λ printed x q g. calls_run calls (front ++ []) printed Undefined Undefined x q g
      (before ++ call_code (length front) (argument.Sum sum)) end here.1
      (texts ∙ ap (λ fs. fs ++ flat_map argument_texts calls) (sym (append-nil front)))
      (omega (arith, few, length-append front ([]))) (other_calls front (argument.Sum sum) calls before end b))

-- a whole script says what the first text says
pub script_says : (calls : List Argument) (code : List ℕ) (texts : List (List ℕ)) → list_all is_argument calls ≡ true
    → length calls < 2 ^ 63 → code ≡ script_code calls → texts ≡ script_texts calls
    → Ends (script code texts 5) (start_of (script code texts 5)) (lines_of calls) (end_of calls)
script_says calls code texts all few code_is texts_are =
    calls_run (script code texts 5) (ap (λ ts. slice_get ts 0) texts_are) calls (codes "print" ∷ []) [] Undefined
    Undefined Undefined Undefined Undefined [] code all texts_are (omega (arith, few))
    (record { rest = []; whole = sym (append-nil code); reach = code_is })
