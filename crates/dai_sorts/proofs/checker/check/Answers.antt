use Rattle.std.proofs.Common.{List, map, MatchOption, subst, sym}
use Rattle.dai_model.specs.Protocol.{Protocol}
use Rattle.dai_syntax.specs.declared.tree.Decl.{Decl}
use Rattle.dai_syntax.specs.Trees.{declaration_of, declarations_of}
use Rattle.dai_rules.specs.Faults.{IsFaultless, IsTold}
use Rattle.dai_sorts.specs.Drafts.{drafted}
use Rattle.dai_sorts.specs.Protocols.{IsProtocolOf}
use Rattle.dai_sorts.proofs.Accepted.{accepted}
use Rattle.dai_sorts.proofs.checker.check.Goals as goal

pub draft-requires : goal.draft-requires
draft-requires c =
    let ds = declarations_of c.args.file.now in
    let faultless : IsFaultless ds = subst (λ o. MatchOption o (IsFaultless ds) (IsTold ds)) c.in_default.is c.in_ok-fault.ensures in
    subst (λ (decls : List Decl). IsFaultless (map declaration_of decls)) (sym c.deref.ensures.value) faultless

pub finished-requires : goal.finished-requires
finished-requires c =
    let ds = declarations_of c.args.file.now in
    let faultless : IsFaultless ds = subst (λ o. MatchOption o (IsFaultless ds) (IsTold ds)) c.in_default.is c.in_ok-fault.ensures in
    let is : IsProtocolOf ds (drafted c.in_ok-draft.draft) = subst (λ (decls : List Decl). IsProtocolOf (map declaration_of decls) (drafted c.in_ok-draft.draft)) c.deref.ensures.value c.in_ok-draft.ensures in
    ∣ accepted ds (drafted c.in_ok-draft.draft) faultless is ∣₁

pub returns-clause-protocol : goal.returns-clause-protocol
returns-clause-protocol c =
    let ds = declarations_of c.args.file.now in
    let faultless : IsFaultless ds = subst (λ o. MatchOption o (IsFaultless ds) (IsTold ds)) c.in_default.is c.in_ok-fault.ensures in
    let is : IsProtocolOf ds (drafted c.in_ok-draft.draft) = subst (λ (decls : List Decl). IsProtocolOf (map declaration_of decls) (drafted c.in_ok-draft.draft)) c.deref.ensures.value c.in_ok-draft.ensures in
    (faultless, subst (λ (P : Protocol). IsProtocolOf ds P) (sym c.finished.ensures) is)
