-- The laws of the layout of a source.
use Rattle.hz_tree.specs.sources.Refusals.{function_scopes}
use Rattle.hz_tree.specs.tokens.Text.{Text}
use Rattle.hz_tree.specs.trees.Layout.{all_scopes}
use Rattle.hz_resolve.specs.Laws.{WaysGoOn, WaysEnd}
use Rattle.hz_resolve.specs.LawsOfPlaces.{IsLayout, SlotsAreFound, RegistersAreLocal, GlobalsAreUndeclaredOrVars}
use Rattle.hz_resolve.proofs.lemmas.Numbers.{number_is_place, stands, is_placed, one_number}
use Rattle.hz_resolve.proofs.lemmas.Nesting.{scope_inside, script_outermost, functions_ordered}
use Rattle.hz_resolve.proofs.lemmas.Nesting.{functions_stand, script_stands, have_first, have_parents}
use Rattle.hz_resolve.proofs.lemmas.Outwards.{way_on, way_ends}
use Rattle.hz_resolve.proofs.lemmas.Listed.{place_listed, only_listed, listed_in_slot, listed_in_register}
use Rattle.hz_resolve.proofs.lemmas.Listed.{listed_global}
use Rattle.hz_resolve.proofs.lemmas.Listed.{listed_declared}
use Rattle.hz_resolve.proofs.lemmas.Regular.{regular}

pub ways_on : (source : Text) → WaysGoOn (function_scopes source)
ways_on source r p q = way_on (all_scopes (function_scopes source)) r p q (regular source)

pub ways_end : (source : Text) → WaysEnd (function_scopes source)
ways_end source p = way_ends (all_scopes (function_scopes source)) p

pub slots_found : (source : Text) → SlotsAreFound (function_scopes source)
slots_found source k i n hops slot p x = listed_in_slot (function_scopes source) k i n hops slot p x (regular source)

pub registers_local : (source : Text) → RegistersAreLocal (function_scopes source)
registers_local source k i n p x = listed_in_register (function_scopes source) k i n p x (regular source)

pub globals_undeclared : (source : Text) → GlobalsAreUndeclaredOrVars (function_scopes source)
globals_undeclared source k i n p x = listed_global (function_scopes source) k i n p x (regular source)

pub is_layout : (source : Text) → IsLayout (function_scopes source)
is_layout source =
    let fs = function_scopes source in
    record {
      numbered = number_is_place fs;
      there = stands fs;
      of_functions = is_placed fs;
      apart = one_number fs;
      functions = functions_stand source;
      script = script_stands source;
      first = have_first source;
      parents = have_parents source;
      inside = scope_inside source;
      outermost = script_outermost source;
      ordered = functions_ordered fs;
      ways = ways_on source;
      ways_end = ways_end source;
      places = place_listed fs;
      names = only_listed fs;
      slots = slots_found source;
      registers = registers_local source;
      globals = globals_undeclared source;
      declared = listed_declared fs;
    }
