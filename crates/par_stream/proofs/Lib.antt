mod Statuses
mod Tables
