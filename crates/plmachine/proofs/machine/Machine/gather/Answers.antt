use Rattle.plsearch.specs.Collecting.{copies_from}
use Rattle.plmachine.proofs.Gathering.{PutsList, gathers-yes, gathers-no, gathers-same, gathers-err}
use Rattle.plmachine.proofs.machine.Machine.gather.Goals as goal

pub unify-requires-clause-left : goal.unify-requires-clause-left
unify-requires-clause-left c = (c.put_list.ensures.stays.values c.args.whole c.requires).0

pub returns-clause-yes : goal.returns-clause-yes
returns-clause-yes c =
    let s = c.args.self.now.stack in
    let t = c.put_list.new.self in
    let v = c.in_ok-list.list in
    let p : PutsList s t (copies_from c.args.level c.args.self.now.kept) v = record { fits = c.in_ok-list.ensures.value; is = c.in_ok-list.ensures.is; count = c.in_ok-list.ensures.count; stays = c.put_list.ensures.stays } in
    gathers-yes s t c.unify.new.self c.args.whole v _ c.requires p c.unify.result c.unify.ensures.yes

pub returns-clause-no : goal.returns-clause-no
returns-clause-no c =
    let s = c.args.self.now.stack in
    let t = c.put_list.new.self in
    let v = c.in_ok-list.list in
    let p : PutsList s t (copies_from c.args.level c.args.self.now.kept) v = record { fits = c.in_ok-list.ensures.value; is = c.in_ok-list.ensures.is; count = c.in_ok-list.ensures.count; stays = c.put_list.ensures.stays } in
    gathers-no s t c.unify.new.self c.args.whole v _ c.requires p c.unify.result c.unify.ensures.no

pub returns-clause-same : goal.returns-clause-same
returns-clause-same c =
    let s = c.args.self.now.stack in
    let t = c.put_list.new.self in
    let v = c.in_ok-list.list in
    let p : PutsList s t (copies_from c.args.level c.args.self.now.kept) v = record { fits = c.in_ok-list.ensures.value; is = c.in_ok-list.ensures.is; count = c.in_ok-list.ensures.count; stays = c.put_list.ensures.stays } in
    gathers-same s t c.unify.new.self c.args.whole v _ c.requires p c.unify.result c.unify.ensures.no

pub returns-clause-err : goal.returns-clause-err
returns-clause-err c =
    let s = c.args.self.now.stack in
    let t = c.put_list.new.self in
    let v = c.in_ok-list.list in
    let p : PutsList s t (copies_from c.args.level c.args.self.now.kept) v = record { fits = c.in_ok-list.ensures.value; is = c.in_ok-list.ensures.is; count = c.in_ok-list.ensures.count; stays = c.put_list.ensures.stays } in
    gathers-err s t c.unify.new.self c.args.whole v _ c.requires p c.unify.result c.unify.ensures.err
