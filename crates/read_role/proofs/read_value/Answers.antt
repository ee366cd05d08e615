use Rattle.read_role.proofs.ValueRoles.{text-role, count-role, number-role, uuid-role, timestamp-role, time-role, ignored_role}
use Rattle.read_role.proofs.read_value.Goals as goal

pub returns-in-Text : goal.returns-in-Text
returns-in-Text c =
    let pre = c.requires in
    let read-text = c.read_text in
    λ x g rooms p used kind key extras ne ev hd ro.
    text-role hd rooms p used kind key x ev pre.role_fits read-text.result _ _ ro c.in-Text.is read-text.ensures.result_value read-text.ensures.words_after read-text.ensures.text_after

pub returns-in-Count : goal.returns-in-Count
returns-in-Count c =
    let pre = c.requires in
    λ x g rooms p used kind key extras ne ev hd ro. count-role hd rooms p used kind key x ev pre.role_fits c.read_count.result
    _ c.in-Count.is c.read_count.ensures.result_value c.read_count.ensures.words_after

pub returns-in-Number : goal.returns-in-Number
returns-in-Number c =
    let pre = c.requires in
    λ x g rooms p used kind key extras ne ev hd ro. number-role hd rooms p used kind key x ev pre.role_fits c.read_number.result
    _ _ c.in-Number.is c.read_number.ensures.result_value c.read_number.ensures.words_after

pub returns-in-Uuid : goal.returns-in-Uuid
returns-in-Uuid c =
    let pre = c.requires in
    λ x g rooms p used kind key extras ne ev hd ro. uuid-role hd rooms p used kind key x ev pre.role_fits c.read_uuid.result
    c.in-Uuid.is c.read_uuid.ensures.result_value c.read_uuid.ensures.words_after

pub returns-in-Timestamp : goal.returns-in-Timestamp
returns-in-Timestamp c =
    let pre = c.requires in
    λ x g rooms p used kind key extras ne ev hd ro. timestamp-role hd rooms p used kind key x ev pre.role_fits c.read_timestamp.result
    _ c.in-Timestamp.is c.read_timestamp.ensures.result_value c.read_timestamp.ensures.words_after

pub returns-in-Time : goal.returns-in-Time
returns-in-Time c =
    let pre = c.requires in
    λ x g rooms p used kind key extras ne ev hd ro. time-role hd rooms p used kind key x ev pre.role_fits c.read_duration.result
    _ c.in-Time.is c.read_duration.ensures.result_value c.read_duration.ensures.words_after

pub returns-in-Extra : goal.returns-in-Extra
returns-in-Extra c = λ x g rooms p used kind key extras ne ev hd ro. absurd (ne c.in-Extra.is)

pub returns-in-Ignored : goal.returns-in-Ignored
returns-in-Ignored c = λ x g rooms p used kind key extras ne ev hd ro. ignored_role hd rooms p used kind key x c.in-Ignored.is
