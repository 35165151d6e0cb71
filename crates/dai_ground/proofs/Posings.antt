-- A question is posed: first the axioms, then what the block leads to.
use Rattle.std.proofs.Common.{◌≡◌, ◌<◌, ◌≤◌, ℕ, Bool, List, [], length, refl, ap, sym, ◌∙◌, subst, arith, Option, Some, None}
use Rattle.std.proofs.lemmas.Option.{same_Some}
use Rattle.dai_model.specs.Formula as Model
use Rattle.dai_model.specs.Protocol.{Protocol, Block}
use Rattle.dai_model.specs.Structure.{Structure}
use Rattle.dai_model.specs.Value.{Satisfies, SatisfiesAxioms}
use Rattle.dai_trail.specs.Formula.{Formula}
use Rattle.dai_picture.specs.declared.picture.Frame.{Frame}
use Rattle.dai_picture.specs.declared.picture.Picture.{Picture}
use Rattle.dai_picture.specs.Pictures.{IsFrame, IsPicture}
use Rattle.dai_picture.specs.Worlds.{World, Draws}
use Rattle.dai_picture.proofs.SameWorld.{world_kept}
use Rattle.dai_ground.specs.Asking.{Asks, Restricts, RestrictsTo, EachWorld, SomeWorld, Leads, RefutesFrom, IsBroken, IsKnown, block_asked, parameters_asked, choices_asked}
use Rattle.dai_ground.specs.declared.wide.Wide.{Wide}
use Rattle.dai_picture.specs.declared.draw.Drawing.{Drawing}
use Rattle.dai_picture.specs.Drawing.{AreBefore}
use Rattle.dai_ground.specs.Questions.{IsQuestion, IsDrawn, IsDecided}
use Rattle.dai_ground.proofs.FormulaBits.{rows_kept}
use Rattle.dai_logic.specs.declared.structure.BlockId.{BlockId}
use Rattle.dai_logic.specs.Protocols.{block_named}
use Rattle.dai_logic.proofs.Calls.{well_sorted_block}
use Rattle.dai_model.specs.WellSorted.{IsProtocol}
use Rattle.std.specs.List.{All}
use Rattle.std.specs.Prelude.{IsSome}
use Rattle.dai_ground.proofs.Askings.{asks_drawn, asks_restricted, asks_as}

-- the axioms, and these formulas
abbrev pub MeetsAll : Protocol → List Model.Formula → Structure → Type 0
MeetsAll P before s = SatisfiesAxioms P s × All (Satisfies s) before

pub posed_here : (P : Protocol) (exact : Bool) (before : List Model.Formula) (broken : Option Model.Formula) (frame : Frame) (picture : Picture) (a b c : Formula) → IsFrame P [] [] a.vars frame → IsPicture P frame.slots.items a.vars picture → RestrictsTo P frame picture (MeetsAll P before) a b → RestrictsTo P frame picture (IsBroken broken) b c → Restricts (EachWorld P [] [] exact frame picture (RefutesFrom P None before broken)) (SomeWorld P [] [] exact frame picture (RefutesFrom P None before broken)) a c
posed_here P exact before broken frame picture a b c drawn pictured x y = record {
  grows = let m = x.grows in let n = y.grows in omega arith;
  keeps = λ bits met. x.keeps bits (y.keeps bits met);
  holds = λ bits met w is shows.
      let meets = x.holds bits (y.keeps bits met) w.structure shows.structure in (
        record { axioms = meets.0; after = w.structure; leaves = refl; is_broken = y.holds bits met w.structure shows.structure },
        meets.1,
      );
  completes = λ bits met given.
      let w = given.0 in
      let one = x.completes bits met (w.structure, given.2.structure, (given.3.0.axioms, given.3.1)) in
      let shows = world_kept P [] [] a.vars frame picture bits one.0 w drawn pictured one.2 given.2 in
      let same : given.3.0.after ≡ w.structure = same_Some given.3.0.after w.structure (sym given.3.0.leaves) in
      let two = y.completes one.0 one.1 (w.structure, shows.structure, subst (IsBroken broken) same given.3.0.is_broken) in
      (two.0, two.1, λ var l. two.2 var (let m = x.grows in omega arith) ∙ one.2 var l);
}

pub posed_after : (P : Protocol) (block : Block) (exact : Bool) (before : List Model.Formula) (broken : Option Model.Formula) (frame : Frame) (picture : Picture) (a b c : Formula) → IsFrame P block.parameters block.choices a.vars frame → IsPicture P frame.slots.items a.vars picture → RestrictsTo P frame picture (MeetsAll P before) a b → Restricts (EachWorld P block.parameters block.choices exact frame picture (Leads P block broken)) (SomeWorld P block.parameters block.choices exact frame picture (Leads P block broken)) b c → Restricts (EachWorld P block.parameters block.choices exact frame picture (RefutesFrom P (Some block) before broken)) (SomeWorld P block.parameters block.choices exact frame picture (RefutesFrom P (Some block) before broken)) a c
posed_after P block exact before broken frame picture a b c drawn pictured x y = record {
  grows = let m = x.grows in let n = y.grows in omega arith;
  keeps = λ bits met. x.keeps bits (y.keeps bits met);
  holds = λ bits met w is shows.
      let leads = y.holds bits met w is shows in
      let meets = x.holds bits (y.keeps bits met) w.structure shows.structure in
      (record { axioms = meets.0; after = leads.after; leaves = leads.leaves; is_broken = leads.is_broken }, meets.1);
  completes = λ bits met given.
      let w = given.0 in
      let one = x.completes bits met (w.structure, given.2.structure, (given.3.0.axioms, given.3.1)) in
      let shows = world_kept P block.parameters block.choices a.vars frame picture bits one.0 w drawn pictured one.2 given.2 in
      let two = y.completes one.0 one.1 (w, given.1, shows, record { after = given.3.0.after; leaves = given.3.0.leaves; is_broken = given.3.0.is_broken }) in
      (two.0, two.1, λ var l. two.2 var (let m = x.grows in omega arith) ∙ one.2 var l);
}

-- what was drawn, and then posed
pub asks_posed : (P : Protocol) (parameters choices : List ℕ) (exact : Bool) (Is : World → Type 0) (a b : Formula) (frame : Frame) (picture : Picture) → IsFrame P parameters choices a.vars frame → IsPicture P frame.slots.items a.vars picture → Draws P parameters choices exact a frame picture → Restricts (EachWorld P parameters choices exact frame picture Is) (SomeWorld P parameters choices exact frame picture Is) a b → Asks P parameters choices exact Is Is b frame picture
asks_posed P parameters choices exact Is a b frame picture drawn pictured d r =
    asks_as P parameters choices exact (λ w. Unit {0} × Is w) (λ w. Unit {0} × Is w) Is Is b frame picture (λ w is both. both.1) (λ w is one. (tt, one))
    (asks_restricted P parameters choices exact (λ w. Unit {0}) (λ w. Unit {0}) Is Is _ _ a b frame picture drawn pictured r
    (λ bits w met is shows holds. holds w is shows)
    (λ bits w met is shows other. (w, is, shows, other))
    (asks_drawn P parameters choices exact a frame picture d))

pub posed_of_none : (P : Protocol) (exact : Bool) (before : List Model.Formula) (broken : Option Model.Formula) (frame : Frame) (picture : Picture) (block : Option BlockId) (a b c : Formula) → block ≡ None → IsFrame P (parameters_asked (block_asked P block)) (choices_asked (block_asked P block)) a.vars frame → IsPicture P frame.slots.items a.vars picture → RestrictsTo P frame picture (MeetsAll P before) a b → RestrictsTo P frame picture (IsBroken broken) b c → Restricts (EachWorld P (parameters_asked (block_asked P block)) (choices_asked (block_asked P block)) exact frame picture (RefutesFrom P (block_asked P block) before broken)) (SomeWorld P (parameters_asked (block_asked P block)) (choices_asked (block_asked P block)) exact frame picture (RefutesFrom P (block_asked P block) before broken)) a c
posed_of_none P exact before broken frame picture None a b c is drawn pictured x y = posed_here P exact before broken frame picture a b c drawn pictured x y
posed_of_none P exact before broken frame picture (Some id) a b c is drawn pictured x y = absurd (let k : ⊥ = cc in k)

posed_named : (P : Protocol) (exact : Bool) (before : List Model.Formula) (broken : Option Model.Formula) (frame : Frame) (picture : Picture) (id : BlockId) (asked : Option Block) (a b c : Formula) → block_named P id ≡ asked → IsSome asked → IsFrame P (parameters_asked asked) (choices_asked asked) a.vars frame → IsPicture P frame.slots.items a.vars picture → RestrictsTo P frame picture (MeetsAll P before) a b → ((called : Block) (exact : Bool) → block_named P id ≡ Some called → Restricts (EachWorld P called.parameters called.choices exact frame picture (Leads P called broken)) (SomeWorld P called.parameters called.choices exact frame picture (Leads P called broken)) b c) → Restricts (EachWorld P (parameters_asked asked) (choices_asked asked) exact frame picture (RefutesFrom P asked before broken)) (SomeWorld P (parameters_asked asked) (choices_asked asked) exact frame picture (RefutesFrom P asked before broken)) a c
posed_named P exact before broken frame picture id None a b c named some drawn pictured x y = absurd (let k : ⊥ = cc in k)
posed_named P exact before broken frame picture id (Some called) a b c named some drawn pictured x y = posed_after P called exact before broken frame picture a b c drawn pictured x (y called exact named)

pub posed_of_some : (P : Protocol) (exact : Bool) (before : List Model.Formula) (broken : Option Model.Formula) (frame : Frame) (picture : Picture) (block : Option BlockId) (id : BlockId) (a b c : Formula) → block ≡ Some id → IsKnown P block → IsFrame P (parameters_asked (block_asked P block)) (choices_asked (block_asked P block)) a.vars frame → IsPicture P frame.slots.items a.vars picture → RestrictsTo P frame picture (MeetsAll P before) a b → ((called : Block) (exact : Bool) → block_named P id ≡ Some called → Restricts (EachWorld P called.parameters called.choices exact frame picture (Leads P called broken)) (SomeWorld P called.parameters called.choices exact frame picture (Leads P called broken)) b c) → Restricts (EachWorld P (parameters_asked (block_asked P block)) (choices_asked (block_asked P block)) exact frame picture (RefutesFrom P (block_asked P block) before broken)) (SomeWorld P (parameters_asked (block_asked P block)) (choices_asked (block_asked P block)) exact frame picture (RefutesFrom P (block_asked P block) before broken)) a c
posed_of_some P exact before broken frame picture None id a b c is known drawn pictured x y = absurd (let k : ⊥ = cc in k)
posed_of_some P exact before broken frame picture (Some own) id a b c is known drawn pictured x y =
    let same : id ≡ own = same_Some id own (sym is) in
    posed_named P exact before broken frame picture own (block_named P own) a b c refl known drawn pictured x
    (λ called exact named. y called exact (ap (block_named P) same ∙ named))

asked_sorts : (P : Protocol) (id : BlockId) (asked : Option Block) → IsProtocol P → block_named P id ≡ asked → All (λ sort. sort < length P.sorts) (parameters_asked asked) × All (λ sort. sort < length P.sorts) (choices_asked asked)
asked_sorts P id None protocol named = ((λ k d l. absurd (omega arith)), (λ k d l. absurd (omega arith)))
asked_sorts P id (Some called) protocol named = let well = well_sorted_block P id called protocol named in (well.parameters, well.choices)

pub sorts_known : (P : Protocol) (block : Option BlockId) → IsProtocol P → All (λ sort. sort < length P.sorts) (parameters_asked (block_asked P block)) × All (λ sort. sort < length P.sorts) (choices_asked (block_asked P block))
sorts_known P None protocol = ((λ k d l. absurd (omega arith)), (λ k d l. absurd (omega arith)))
sorts_known P (Some id) protocol = asked_sorts P id (block_named P id) protocol refl

pub frame_kept : (P : Protocol) (parameters choices : List ℕ) (m n : ℕ) (frame : Frame) → m ≤ n → IsFrame P parameters choices m frame → IsFrame P parameters choices n frame
frame_kept P parameters choices m n frame le h = record {
  one_each = h.one_each;
  inhabited = h.inhabited;
  used = rows_kept m n _ _ le h.used;
  named = rows_kept m n _ _ le h.named;
  chosen = rows_kept m n _ _ le h.chosen;
}

pub picture_kept : (P : Protocol) (slots : List ℕ) (m n : ℕ) (picture : Picture) → m ≤ n → IsPicture P slots m picture → IsPicture P slots n picture
picture_kept P slots m n picture le h = record { tables = rows_kept m n _ _ le h.tables; values = rows_kept m n _ _ le h.values }

-- what was drawn and posed is the question
pub question_of : (P : Protocol) (asked : Option Block) (exact : Bool) (sizes : List ℕ) (before : List Model.Formula) (broken : Option Model.Formula) (a b : Formula) (d : Drawing) (q : Wide) → q.cnf ≡ b → q.frame ≡ d.frame → q.picture ≡ d.picture → IsDrawn P asked exact sizes a d → Restricts (EachWorld P (parameters_asked asked) (choices_asked asked) exact d.frame d.picture (RefutesFrom P asked before broken)) (SomeWorld P (parameters_asked asked) (choices_asked asked) exact d.frame d.picture (RefutesFrom P asked before broken)) a b → IsQuestion P asked exact sizes before broken q
question_of P asked exact sizes before broken a b d q cnf frame picture h r =
    let ps = parameters_asked asked in
    let cs = choices_asked asked in
    let Is : World → Type 0 = RefutesFrom P asked before broken in
    let wide : a.vars ≤ q.cnf.vars = subst (λ (f : Formula). a.vars ≤ f.vars) (sym cnf) r.grows in
    let framed : IsPicture P d.frame.slots.items a.vars d.picture = subst (λ ss. IsPicture P ss a.vars d.picture) (sym h.slots_are) h.pictured in
    let asks = asks_posed P ps cs exact Is a b d.frame d.picture h.drawn framed h.draws r in
    let asks' : Asks P ps cs exact Is Is q.cnf d.frame d.picture = subst (λ (f : Formula). Asks P ps cs exact Is Is f d.frame d.picture) (sym cnf) asks in
    record {
      slots_are = ap (λ (fr : Frame). fr.slots.items) frame ∙ h.slots_are;
      drawn = subst (IsFrame P ps cs q.cnf.vars) (sym frame) (frame_kept P ps cs a.vars q.cnf.vars d.frame wide h.drawn);
      pictured = subst (IsPicture P sizes q.cnf.vars) (sym picture) (picture_kept P sizes a.vars q.cnf.vars d.picture wide h.pictured);
      asks = subst (λ fr. Asks P ps cs exact Is Is q.cnf fr q.picture) (sym frame) (subst (λ pi. Asks P ps cs exact Is Is q.cnf d.frame pi) (sym picture) asks');
    }

-- all variables that were drawn decide what is shown
pub decided_of : (P : Protocol) (asked : Option Block) (exact : Bool) (sizes : List ℕ) (a : Formula) (d : Drawing) (q : Wide) → q.bits ≡ a.vars → q.frame ≡ d.frame → q.picture ≡ d.picture → IsDrawn P asked exact sizes a d → IsDecided P asked q
decided_of P asked exact sizes a d q bits frame picture h =
    let ps = parameters_asked asked in
    let cs = choices_asked asked in
    let framed : IsPicture P d.frame.slots.items a.vars d.picture = subst (λ ss. IsPicture P ss a.vars d.picture) (sym h.slots_are) h.pictured in
    record {
      drawn = subst (λ n. IsFrame P ps cs n q.frame) (sym bits) (subst (IsFrame P ps cs a.vars) (sym frame) h.drawn);
      pictured = subst (λ n. IsPicture P q.frame.slots.items n q.picture) (sym bits) (subst (λ (fr : Frame). IsPicture P fr.slots.items a.vars q.picture) (sym frame) (subst (IsPicture P d.frame.slots.items a.vars) (sym picture) framed));
    }

-- the variables before those of the parameters
pub front_of : (P : Protocol) (asked : Option Block) (exact : Bool) (sizes : List ℕ) (a : Formula) (d : Drawing) (q : Wide) → q.bits ≡ d.start → q.frame ≡ d.frame → q.picture ≡ d.picture → IsDrawn P asked exact sizes a d → AreBefore P (choices_asked asked) q.bits q.frame q.picture
front_of P asked exact sizes a d q bits frame picture h =
    let cs = choices_asked asked in
    subst (λ n. AreBefore P cs n q.frame q.picture) (sym bits) (subst (λ fr. AreBefore P cs d.start fr q.picture) (sym frame) (subst (AreBefore P cs d.start d.frame) (sym picture) h.before))
