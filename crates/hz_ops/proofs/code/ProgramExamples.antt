-- What a program shows of a module, worked out.
use Rattle.std.proofs.Common.{◌≡◌, [], ◌∷◌, Some, None, map, true, false, refl}
use Rattle.hz_tree.specs.declared.tree.FunctionKind.TheVariants.{Script, Arrow}
use Rattle.hz_ops.specs.code.Activations.{Program}
use Rattle.hz_ops.specs.code.Bytes.{program_of}

-- a script of which a part is caught at 9, and the inside of that part at 8, and an arrow without code
abbrev program : Program
program = program_of (record {
  functions =
      record {
        kind = Script;
        length = 0;
        body = Some (record {
          code = [];
          registers = 3;
          handlers = record { from = 2; to = 4; target = 8 } ∷ record { from = 1; to = 6; target = 9 } ∷ [];
        });
      }
      ∷ record { kind = Arrow; length = 2; body = None } ∷ [];
  texts = [];
})

-- the inner handler comes first, and neither holds its end
caught_at : map (program.handler 0) (0 ∷ 1 ∷ 2 ∷ 3 ∷ 4 ∷ 5 ∷ 6 ∷ [])
    ≡ None ∷ Some 9 ∷ Some 8 ∷ Some 8 ∷ Some 9 ∷ Some 9 ∷ None ∷ []
caught_at = refl

-- a stub shows its kind and its length alone
stub_shown :
    map program.has_code (0 ∷ 1 ∷ []) ≡ true ∷ false ∷ []
stub_shown = refl

kinds_shown : map program.kind (0 ∷ 1 ∷ []) ≡ Script ∷ Arrow ∷ []
kinds_shown = refl

lengths_shown : map program.length (0 ∷ 1 ∷ []) ≡ 0 ∷ 2 ∷ []
lengths_shown = refl

no_instruction : program.fetch 1 0 ≡ None
no_instruction = refl
